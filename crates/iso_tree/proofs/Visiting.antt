-- The read of a node that a scan visits, and what follows from its bytes.
use Rattle.iso_tree.proofs.{Words.{◌≡◌, ◌∙◌, sym, refl, ap, ℕ, zero, suc, ◌+◌, ◌-◌, ◌*◌, ◌<◌, ◌≤◌, ◌&&◌, ◌==◌, not, Bool, true, cond, List, [], ◌∷◌, ◌++◌, length, take, drop, slice_index, nat_le, Option, Some, None, Ok, Err, arith, inl, inr, eq-eqb, ne_eqb, list_all, AllByRecursion, ForSome, and_parts, cases_eq, leb-true, append-nil, drop-drop, Access, Span, Area, TxError, own, marked, block_at, Done, bytes_in, further_bytes, with_further, look_access, is_part, is_zero, key_at, keys_mark, text_of, is_child, is_node, child_of, first_in, many_in, pairs_with, parts_of, scan_further, is_part_at, Tx, Device, with_accesses, Ran, IsCause, IsCut, marked_access, at_start, cut_at_look, keys_of, node_read, values_mark, visit_program, are_key_parts, cell_count, count_of, take-nil}, Facts.{child_below, inner_many, node_parts}, Looking.{looked}, ScanTrees.take_zero}
use Rattle.std.proofs.Common.{append_assoc, length-append}
use Rattle.store_model.specs.declared.stores.StoreError.TheVariants as store

-- whether a value part is that of a cell of an inner node
pub inner_part : (a : Area) (level : ℕ) (part : List ℕ) → (level ≡ 0 → ⊥) → is_part_at a level part ≡ is_child a.blocks part
inner_part a zero part is = absurd (is refl)
inner_part a (suc level) part is = refl

pub inner_parts : (a : Area) (level : ℕ) (parts : List (List ℕ)) → (level ≡ 0 → ⊥) → list_all (is_part_at a level) parts ≡ list_all (is_child a.blocks) parts
inner_parts a level [] is = refl
inner_parts a level (part ∷ parts) is = (λ i. inner_part a level part is i && inner_parts a level parts is i)

-- the next part of those that are left
pub parts_step : (values : List ℕ) (i many : ℕ) → i < many → parts_of (drop (33 * i) values) (many - i) ≡ take 33 (drop (33 * i) values) ∷ parts_of (drop (33 * (i + 1)) values) (many - (i + 1))
parts_step values i many below =
    let next : many - i ≡ suc (many - (i + 1)) = omega arith in
    let at : 33 * i + 33 ≡ 33 * (i + 1) = omega arith in
    ap (parts_of (drop (33 * i) values)) next ∙ ap (λ v. take 33 (drop (33 * i) values) ∷ parts_of v (many - (i + 1))) (drop-drop 33 (33 * i) values ∙ ap (λ (k : ℕ). drop k values) at)

pub parts_first : (values : List ℕ) (many : ℕ) → parts_of values many ≡ parts_of (drop (33 * 0) values) (many - 0)
parts_first values many = grind arith

pub parts_last : (values : List ℕ) (i many : ℕ) → many ≤ i → parts_of values (many - i) ≡ []
parts_last values i many all = let e : many - i ≡ 0 = omega arith in ap (parts_of values) e

-- the children that value parts name are blocks of the region
pub children_in : (a : Area) (level : ℕ) (parts : List (List ℕ)) → list_all (is_child a.blocks) parts ≡ true → AllByRecursion (λ (part : List ℕ). child_of part < a.blocks) parts
children_in a level [] are = tt
children_in a level (part ∷ parts) are = let two = and_parts (is_child a.blocks part) (list_all (is_child a.blocks) parts) are in ((child_below a.blocks part two.0).below, children_in a level parts two.1)

same_parts : (span : Span) (n : ℕ) (bytes : List ℕ) → parts_of (further_bytes (cond (not (n == 0)) (Some span) None) bytes) n ≡ parts_of (bytes_in span bytes) n
same_parts span n bytes = grind (arith, not)

-- THE READ
-- a read with the marks that it has
pub marked_so : (t u w : Tx) (b : ℕ) (keys values : Span) (many : ℕ) → u ≡ with_accesses t (look_access b (keys ∷ []) ∷ []) → (many ≡ 0 → w ≡ u)
    → (0 < many → w ≡ record u { accesses = marked values u.accesses }) → w ≡ with_accesses t (look_access b (keys ∷ with_further (cond (not (many == 0)) (Some values) None)) ∷ [])
marked_so t u w b keys values many is none some =
    let access : Bool → Tx = λ c. with_accesses t (look_access b (keys ∷ with_further (cond (not c) (Some values) None)) ∷ []) in
    elim (cases_eq many 0) [
      | inl empty ↦ none empty ∙ is ∙ ap access (sym (eq-eqb many 0 empty))
      | inr other ↦ marked_access t u w (look_access b (keys ∷ [])) values is (some (omega arith)) ∙ ap access (sym (ne_eqb many 0 other))
    ]

-- the head and key parts of a node that is well formed
pub record HasKeys (a : Area) (level : ℕ) (bytes : List ℕ) : Type 0 where
  pub node : is_node a.size level (keys_of a bytes) ≡ true
  pub parts : are_key_parts a.size (keys_of a bytes) ≡ true
  pub few : count_of (keys_of a bytes) ≤ cell_count a.size
  pub some : 0 < level → 0 < count_of (keys_of a bytes)

pub keys_read : (a : Area) (level : ℕ) (bytes keys : List ℕ) (n : ℕ) (passes : Bool) → keys ≡ take (64 + 31 * n) (drop 0 bytes) → n ≡ cell_count a.size → passes ≡ is_node a.size level keys → passes ≡ true → HasKeys a level bytes
keys_read a level bytes keys n passes is cells test good =
    let same : keys ≡ keys_of a bytes = is ∙ ap (λ (m : ℕ). take (64 + 31 * m) (drop 0 bytes)) cells in
    let node : is_node a.size level (keys_of a bytes) ≡ true = ap (is_node a.size level) (sym same) ∙ sym test ∙ good in
    let shape = node_parts a.size level (keys_of a bytes) node in
    record { node = node; parts = shape.parts; few = shape.few; some = λ high. omega (arith, inner_many a.size level (keys_of a bytes) node high) }

module _ (a : Area) (from to : List ℕ) (level : ℕ) (bytes : List ℕ) (first many : ℕ) (node : is_node a.size level (keys_of a bytes) ≡ true)
    (first_is : first ≡ first_in level from (keys_of a bytes)) (many_is : many ≡ many_in level from to (keys_of a bytes)) where
  pub further_is : scan_further a level from to (keys_of a bytes) ≡ cond (not (many == 0)) (Some (values_mark a.size first many)) None
  further_is = (λ i. cond (node i && not (sym many_is i == 0)) (Some (values_mark a.size (sym first_is i) (sym many_is i))) None)

  -- the value parts that the call sees are those that the program reads
  pub parts_are : parts_of (further_bytes (scan_further a level from to (keys_of a bytes)) bytes) (many_in level from to (keys_of a bytes)) ≡ parts_of (bytes_in (values_mark a.size first many) bytes) many
  parts_are = (λ i. parts_of (further_bytes (further_is i) bytes) (sym many_is i)) ∙ same_parts (values_mark a.size first many) many bytes

module _ (a : Area) (from to : List ℕ) (level block : ℕ) (t v : Tx) where
  -- the read is refused
  pub visit_refused : (before now : Device) (e : TxError) → v ≡ t → IsCause v 1 before now e → IsCut (visit_program a from to level block) t v e
  visit_refused before now e same cause =
      cut_at_look (visit_program a from to level block) (a.start + block) (keys_mark a.size) (scan_further a level from to) _ t t v before now e (at_start (visit_program a from to level block) t) same cause

  module _ (bytes : List ℕ) (bytes_are : ForSome t.base (λ A. bytes ≡ block_at (own A t.accesses) (a.start + block))) (fits : length v.accesses ≤ 4096) where
    -- the node was read, with its value parts
    pub visit_end : (first many : ℕ) (good : Bool) → is_node a.size level (keys_of a bytes) ≡ true → first ≡ first_in level from (keys_of a bytes) → many ≡ many_in level from to (keys_of a bytes)
        → v ≡ with_accesses t (look_access (a.start + block) (keys_mark a.size ∷ with_further (cond (not (many == 0)) (Some (values_mark a.size first many)) None)) ∷ [])
        → list_all (is_part_at a level) (parts_of (bytes_in (values_mark a.size first many) bytes) many) ≡ good
        → Ran (visit_program a from to level block) t v (cond good (Ok (node_read a from to level bytes)) (Err (store.Broken (a.start + block))))
    visit_end first many good node first_is many_is is so =
        let all : list_all (is_part_at a level) (parts_of (further_bytes (scan_further a level from to (keys_of a bytes)) bytes) (many_in level from to (keys_of a bytes))) ≡ good =
        ap (list_all (is_part_at a level)) (parts_are a from to level bytes first many node first_is many_is) ∙ so in
        looked (a.start + block) (keys_mark a.size) (scan_further a level from to) _ t v bytes _ bytes_are fits
        (is ∙ ap (λ (o : Option Span). with_accesses t (look_access (a.start + block) (keys_mark a.size ∷ with_further o) ∷ [])) (sym (further_is a from to level bytes first many node first_is many_is)))
        (λ i. Done (cond (node i && all i) (Ok (node_read a from to level bytes)) (Err (store.Broken (a.start + block)))))

-- PAIRS
-- enough pairs are found
pub pairs_full : (found pairs : List (List ℕ × List ℕ)) (max : ℕ) → max ≤ length found → found ++ take (max - length found) pairs ≡ found
pairs_full found pairs max full = let none : max - length found ≡ 0 = omega arith in ap (λ (n : ℕ). found ++ take n pairs) none ∙ ap (λ l. found ++ l) (take_zero pairs) ∙ append-nil found

-- one more pair is found
pairs_more : (found now : List (List ℕ × List ℕ)) (max : ℕ) (pair : List ℕ × List ℕ) (pairs : List (List ℕ × List ℕ)) → length found < max → now ≡ found ++ pair ∷ []
    → found ++ take (max - length found) (pair ∷ pairs) ≡ now ++ take (max - length now) pairs
pairs_more found now max pair pairs few added =
    let long : length now ≡ length found + 1 = ap length added ∙ length-append found (pair ∷ []) in
    let next : max - length found ≡ suc (max - length now) = omega arith in
    ap (λ (n : ℕ). found ++ take n (pair ∷ pairs)) next ∙ sym (append_assoc found (pair ∷ []) (take (max - length now) pairs)) ∙ ap (λ l. l ++ take (max - length now) pairs) (sym added)

-- the pair of the next cell is found
pub pairs_step : (keys values : List ℕ) (first i many max : ℕ) (found now : List (List ℕ × List ℕ)) → i < many → length found < max
    → now ≡ found ++ (key_at keys (first + i), text_of (take 33 (drop (33 * i) values))) ∷ []
    → found ++ take (max - length found) (pairs_with keys (first + i) (parts_of (drop (33 * i) values) (many - i)))
    ≡ now ++ take (max - length now) (pairs_with keys (first + (i + 1)) (parts_of (drop (33 * (i + 1)) values) (many - (i + 1))))
pairs_step keys values first i many max found now below few added =
    let rest = parts_of (drop (33 * (i + 1)) values) (many - (i + 1)) in
    let at : first + i + 1 ≡ first + (i + 1) = omega arith in
    ap (λ ps. found ++ take (max - length found) (pairs_with keys (first + i) ps)) (parts_step values i many below)
    ∙ pairs_more found now max (key_at keys (first + i), text_of (take 33 (drop (33 * i) values))) (pairs_with keys (first + i + 1) rest) few added
    ∙ ap (λ (k : ℕ). now ++ take (max - length now) (pairs_with keys k rest)) at

pub pairs_end : (keys values : List ℕ) (first i many max : ℕ) (found : List (List ℕ × List ℕ)) → many ≤ i
    → found ++ take (max - length found) (pairs_with keys (first + i) (parts_of (drop (33 * i) values) (many - i))) ≡ found
pairs_end keys values first i many max found all =
    ap (λ ps. found ++ take (max - length found) (pairs_with keys (first + i) ps)) (parts_last (drop (33 * i) values) i many all) ∙ ap (λ l. found ++ l) (take-nil (max - length found)) ∙ append-nil found

pub pairs_begin : (keys values : List ℕ) (first many max : ℕ) (found : List (List ℕ × List ℕ))
    → found ++ take (max - length found) (pairs_with keys (first + 0) (parts_of (drop (33 * 0) values) (many - 0))) ≡ found ++ take (max - length found) (pairs_with keys first (parts_of values many))
pairs_begin keys values first many max found = let at : first + 0 ≡ first = omega arith in (λ i. found ++ take (max - length found) (pairs_with keys (at i) (sym (parts_first values many) i)))

-- what the next part and the others pass
pub parts_pass : (test : List ℕ → Bool) (values : List ℕ) (i many : ℕ) → i < many → list_all test (parts_of (drop (33 * i) values) (many - i)) ≡ true
    → (test (take 33 (drop (33 * i) values)) ≡ true) × (list_all test (parts_of (drop (33 * (i + 1)) values) (many - (i + 1))) ≡ true)
parts_pass test values i many below all = grind (arith, parts_step) steps 100000

-- a text is not longer than its part
pub text_fits : (part : List ℕ) → is_part 32 part ≡ true → slice_index part 0 ≤ 32
text_fits part is = leb-true (slice_index part 0) 32 (and_parts (nat_le (slice_index part 0) 32) (list_all is_zero (drop (1 + slice_index part 0) part)) is).0

-- one access more
pub one_more : (t v : Tx) (access : Access) → v ≡ with_accesses t (access ∷ []) → length v.accesses ≡ length t.accesses + 1
one_more t v access is = ap (λ (w : Tx). length w.accesses) is ∙ length-append t.accesses (access ∷ [])
