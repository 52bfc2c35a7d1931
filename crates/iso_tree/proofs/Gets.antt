-- The descent finds what the map of the region has.
use Rattle.iso_tree.proofs.{Words.{◌≡◌, ◌∙◌, sym, refl, ap, subst, ℕ, zero, suc, ◌+◌, ◌-◌, ◌<◌, ◌≤◌, Bool, true, false, ◌&&◌, ◌==◌, cond, List, [], ◌∷◌, ◌++◌, map, Option, Some, None, Result, Ok, Err, option_map, arith, AllByRecursion, flat_map, bytes_eq, nat_list_cmp_total, nat_list_eq_equiv, get, get-from_entries, and_parts, both_ways, append-nil, Area, StoreError, Broken, Array, or_else, first_from, block_at, AreReads, Program, Done, bytes_in, further_bytes, accesses_of, answer_of, IsLocal, keys_mark, value_mark, is_part, text_of, key_at, at_cell, is_key, get_op, before, count_of, place_from, place_of, is_child, is_node, Cell, child_of, head_mark, is_head, cells_by, cell_of, in_range, Tree, tree_at, pairs_in, AreAfter, AreChildren, Rise, RiseAfter, IsOrdered, with_head, inner_further, get_below, Descent, AtLeaf, AtBroken, descend, got, get_program, cells_in, root_of, level_of, AreNodes, tree_pairs, IsTreeRegion, tree_map, answer_then, own_reads, whole_reads, reads_then, IsCorrect, local_from, cond_reads, same_ok, found_in, find_append, ties, all_append}, Blocks.chosen_kid, Climbs.child_ordered, Facts.{find_outside, at_test}, Order.{low_of, range_within, range_cut, all_weaker}, Shapes.{kids, chosen, child_for, same_some}}

or_none : (o : Option (List ℕ)) → or_else o None ≡ o
or_none o = grind arith

-- ORDER
rise_in_after : (last : List ℕ) (high : Option (List ℕ)) (cs : List Cell) → RiseAfter last high cs → AllByRecursion (λ (pair : List ℕ × List ℕ). in_range last high pair.0 ≡ true) (map (λ c. (c.0, text_of c.1)) cs)
rise_in_after last high [] is = tt
rise_in_after last high (c ∷ cs) is = (
  is.1,
  all_weaker (λ (pair : List ℕ × List ℕ). in_range c.0 high pair.0 ≡ true) (λ (pair : List ℕ × List ℕ). in_range last high pair.0 ≡ true) (map (λ c. (c.0, text_of c.1)) cs)
      (λ pair h. range_within last c.0 high pair.0 (low_of last high c.0 is.1) h) (rise_in_after c.0 high cs is.2),
)

pub rise_in : (low : List ℕ) (high : Option (List ℕ)) (cs : List Cell) → Rise low high cs → AllByRecursion (λ (pair : List ℕ × List ℕ). in_range low high pair.0 ≡ true) (map (λ c. (c.0, text_of c.1)) cs)
rise_in low high [] is = tt
rise_in low high (c ∷ cs) is = grind (arith, all_weaker, range_within, low_of, rise_in_after) steps 100000

module _ {X : Type 0} (P : List ℕ → Option (List ℕ) → X → Type 0) (f : X → List (List ℕ × List ℕ))
    (each : (low : List ℕ) (high : Option (List ℕ)) (x : X) → P low high x → AllByRecursion (λ (pair : List ℕ × List ℕ). in_range low high pair.0 ≡ true) (f x)) where
  pub pairs_after : (last low : List ℕ) (high : Option (List ℕ)) (c : X) (cs : List (List ℕ × X)) → AreAfter P last low high c cs
      → AllByRecursion (λ (pair : List ℕ × List ℕ). in_range low high pair.0 ≡ true) (f c ++ flat_map (λ x. f x.1) cs)
  pairs_after last low high c [] is = all_append (λ (pair : List ℕ × List ℕ). in_range low high pair.0 ≡ true) (f c) [] (each low high c is) tt
  pairs_after last low high c (d ∷ ds) is =
      all_append (λ (pair : List ℕ × List ℕ). in_range low high pair.0 ≡ true) (f c) (f d.1 ++ flat_map (λ x. f x.1) ds)
      (all_weaker (λ (pair : List ℕ × List ℕ). in_range low (Some d.0) pair.0 ≡ true) (λ (pair : List ℕ × List ℕ). in_range low high pair.0 ≡ true) (f c)
      (λ pair h. range_cut low d.0 high pair.0 is.1 h) (each low (Some d.0) c is.2))
      (all_weaker (λ (pair : List ℕ × List ℕ). in_range d.0 high pair.0 ≡ true) (λ (pair : List ℕ × List ℕ). in_range low high pair.0 ≡ true) (f d.1 ++ flat_map (λ x. f x.1) ds)
      (λ pair h. range_within low d.0 high pair.0 (low_of low high d.0 is.1) h) (pairs_after d.0 d.0 high d.1 ds is.3))

  -- a key of the row is below the chosen child
  pub found_chosen : (key last low : List ℕ) (high : Option (List ℕ)) (c : X) (cs : List (List ℕ × X)) → AreAfter P last low high c cs
      → found_in key (f c ++ flat_map (λ x. f x.1) cs) ≡ found_in key (f (chosen key c cs))
  found_chosen key last low high c [] is = ap (found_in key) (append-nil (f c))
  found_chosen key last low high c (d ∷ ds) is =
      find_append key (f c) (f d.1 ++ flat_map (λ x. f x.1) ds)
      ∙ elim (before key d.0) as (λ b. before key d.0 ≡ b → or_else (found_in key (f c)) (found_in key (f d.1 ++ flat_map (λ x. f x.1) ds)) ≡ found_in key (f (cond b c (chosen key d.1 ds)))) [
        | true ↦ λ b.
            (let none : found_in key (f d.1 ++ flat_map (λ x. f x.1) ds) ≡ None =
            find_outside key d.0 high (f d.1 ++ flat_map (λ x. f x.1) ds) (pairs_after d.0 d.0 high d.1 ds is.3) (λ inside. both_ways (before key d.0) (low_of d.0 high key inside) b) in
            ap (or_else (found_in key (f c))) none ∙ or_none (found_in key (f c)))
        | false ↦ λ b.
            (let none : found_in key (f c) ≡ None =
            find_outside key low (Some d.0) (f c) (each low (Some d.0) c is.2) (λ inside. both_ways (before key d.0) b (and_parts _ _ inside).1) in
            ap (λ o. or_else o (found_in key (f d.1 ++ flat_map (λ x. f x.1) ds))) none ∙ found_chosen key d.0 d.0 high d.1 ds is.3)
      ] refl

children_in : (level : ℕ) (low : List ℕ) (high : Option (List ℕ)) (cs : List (List ℕ × Tree level)) → AreChildren (IsOrdered level) low high cs
    → ((lo : List ℕ) (hi : Option (List ℕ)) (t : Tree level) → IsOrdered level lo hi t → AllByRecursion (λ (pair : List ℕ × List ℕ). in_range lo hi pair.0 ≡ true) (pairs_in level t))
    → AllByRecursion (λ (pair : List ℕ × List ℕ). in_range low high pair.0 ≡ true) (flat_map (λ c. pairs_in level c.1) cs)
children_in level low high [] is each = absurd is
children_in level low high (c ∷ cs) is each = pairs_after (IsOrdered level) (pairs_in level) each [] low high c.1 cs is.1

-- all keys of a tree lie in its range
pub ordered_in : (level : ℕ) (low : List ℕ) (high : Option (List ℕ)) (t : Tree level) → IsOrdered level low high t → AllByRecursion (λ (pair : List ℕ × List ℕ). in_range low high pair.0 ≡ true) (pairs_in level t)
ordered_in zero low high t is = rise_in low high t.1 is
ordered_in (suc level) low high t is = children_in level low high t.1 is (ordered_in level)

-- THE CELLS OF A NODE AND ITS BYTES
pub chosen_place : (key keys : List ℕ) (value : ℕ → List ℕ) (j i m : ℕ) → chosen key (value j) (cells_by keys value i m) ≡ value (place_from key keys j i m)
chosen_place key keys value j i zero = refl
chosen_place key keys value j i (suc m) =
    elim (before key (key_at keys i)) as (λ b. cond b (value j) (chosen key (value i) (cells_by keys value (i + 1) m)) ≡ value (cond b j (place_from key keys i (i + 1) m))) [
      | true ↦ refl
      | false ↦ chosen_place key keys value i (i + 1) m
    ]

pub leaf_finds : (key keys : List ℕ) (value : ℕ → List ℕ) (i m : ℕ)
    → found_in key (map (λ c. (c.0, text_of c.1)) (cells_by keys value i m)) ≡ option_map (λ j. text_of (value j)) (first_from (λ j. bytes_eq (key_at keys j) key) i m)
leaf_finds key keys value i zero = refl
leaf_finds key keys value i (suc m) =
    rw (ties key (key_at keys i) ∙ nat_list_eq_equiv.symm key (key_at keys i)) (at_test (bytes_eq (key_at keys i) key) (text_of (value i)) i m (λ j. text_of (value j)) (λ j. bytes_eq (key_at keys j) key) refl (leaf_finds key keys value (i + 1) m))

-- what holds of each value part holds of all cells
pub parts_all : (P : List ℕ → Type 0) (keys : List ℕ) (value : ℕ → List ℕ) (i m : ℕ) → ((j : ℕ) → i ≤ j → j < i + m → P (value j)) → AllByRecursion (λ (c : Cell). P c.1) (cells_by keys value i m)
parts_all P keys value i zero each = tt
parts_all P keys value i (suc m) each = (each i (omega arith) (omega arith), parts_all P keys value (i + 1) m (λ j from to. each j (omega arith) (omega arith)))

-- what holds of all cells holds of those found
pub found_part : (P : List ℕ → Type 0) (keys : List ℕ) (value : ℕ → List ℕ) (test : ℕ → Bool) (i m j : ℕ) → AllByRecursion (λ (c : Cell). P c.1) (cells_by keys value i m) → first_from test i m ≡ Some j → P (value j)
found_part P keys value test i zero j all e = absurd (cc e)
found_part P keys value test i (suc m) j all e =
    elim (test i) as (λ b. cond b (Some i) (first_from test (i + 1) m) ≡ Some j → P (value j)) [
      | true ↦ λ h. subst (λ (k : ℕ). P (value k)) (same_some i j h) all.0
      | false ↦ λ h. found_part P keys value test (i + 1) m j all.1 h
    ] e

holds_chosen : (P : List ℕ → Type 0) (key part : List ℕ) (cs : List Cell) → P part → AllByRecursion (λ (c : Cell). P c.1) cs → P (chosen key part cs)
holds_chosen P key part [] first all = first
holds_chosen P key part (d ∷ ds) first all = elim (before key d.0) as (λ b. P (cond b part (chosen key d.1 ds))) [
  | true ↦ first
  | false ↦ holds_chosen P key d.1 ds all.0 all.1
]

pub child_holds : (P : List ℕ → Type 0) (key : List ℕ) (c : Cell) (cs : List Cell) → AllByRecursion (λ (c : Cell). P c.1) (c ∷ cs) → P (child_for key (c ∷ cs))
child_holds P key c cs all = holds_chosen P key c.1 cs all.0 all.1

-- what holds at the child that the descent takes
pub record IsChosen (a : Area) (A : Array) (level : ℕ) (key : List ℕ) (cs : List Cell) (part : List ℕ) : Type 0 where
  pub same : child_for key cs ≡ part
  pub child : is_child a.blocks part ≡ true
  pub nodes : AreNodes a A level (child_of part)
  pub range : (lo : List ℕ) × (hi : Option (List ℕ)) × IsOrdered level lo hi (tree_at (cells_in a A) level (child_of part))
  pub found : found_in key (flat_map (λ c. pairs_in level c.1) (kids (cells_in a A) level cs)) ≡ found_in key (pairs_in level (tree_at (cells_in a A) level (child_of part)))

pub chosen_is : (a : Area) (A : Array) (level : ℕ) (key : List ℕ) (low : List ℕ) (high : Option (List ℕ)) (keys : List ℕ) (value : ℕ → List ℕ) (n : ℕ)
    → AreChildren (IsOrdered level) low high (kids (cells_in a A) level (cells_by keys value 0 n))
    → AllByRecursion (λ (c : Cell). is_child a.blocks c.1 ≡ true) (cells_by keys value 0 n) → AllByRecursion (λ (c : Cell). AreNodes a A level (child_of c.1)) (cells_by keys value 0 n)
    → IsChosen a A level key (cells_by keys value 0 n) (value (place_from key keys 0 1 (n - 1)))
chosen_is a A level key low high keys value zero order parts nodes = absurd order
chosen_is a A level key low high keys value (suc m) order parts nodes =
    let cells = cells_in a A in
    let c : Cell = (key_at keys 0, value 0) in
    let cs : List Cell = cells_by keys value 1 m in
    let same : chosen key (value 0) cs ≡ value (place_from key keys 0 1 m) = chosen_place key keys value 0 1 m in
    let ordered = child_ordered cells level key low high (c ∷ cs) order in
    let less : suc m - 1 ≡ m = omega arith in
    subst (λ (k : ℕ). IsChosen a A level key (cells_by keys value 0 (suc m)) (value (place_from key keys 0 1 k))) (sym less) (record {
      same = same;
      child = subst (λ (p : List ℕ). is_child a.blocks p ≡ true) same (child_holds (λ p. is_child a.blocks p ≡ true) key c cs parts);
      nodes = subst (λ (p : List ℕ). AreNodes a A level (child_of p)) same (child_holds (λ p. AreNodes a A level (child_of p)) key c cs nodes);
      range = (ordered.0, ordered.1, subst (λ (p : List ℕ). IsOrdered level ordered.0 ordered.1 (tree_at cells level (child_of p))) same ordered.2);
      found = found_chosen (IsOrdered level) (pairs_in level) (ordered_in level) key [] low high (tree_at cells level (child_of c.1)) (kids cells level cs) order.1
          ∙ ap (λ (t : Tree level). found_in key (pairs_in level t)) (chosen_kid cells level key c cs)
          ∙ ap (λ (p : List ℕ). found_in key (pairs_in level (tree_at cells level (child_of p)))) same;
    })

-- where the descent ends, get answers what the pairs below the node have
pub descend_gets : (a : Area) (key : List ℕ) (A : Array) (level block : ℕ) (path : List (ℕ × ℕ)) (low : List ℕ) (high : Option (List ℕ))
    → AreNodes a A level block → IsOrdered level low high (tree_at (cells_in a A) level block)
    → got a key (answer_of (descend a key true level block path) A) ≡ Ok (found_in key (pairs_in level (tree_at (cells_in a A) level block)))
descend_gets a key A zero block path low high nodes order =
    let B = block_at A (a.start + block) in
    let K = bytes_in (keys_mark a.size) B in
    let V : ℕ → List ℕ = λ i. bytes_in (value_mark a.size i) B in
    let at_true : got a key (AtLeaf path block K (further_bytes (option_map (value_mark a.size) (cell_of key K)) B)) ≡ Ok (option_map (λ j. text_of (V j)) (cell_of key K)) =
    elim (cell_of key K) as (λ c. cell_of key K ≡ c
    → at_cell c (λ i. cond (is_part 32 (further_bytes (option_map (value_mark a.size) c) B)) (Ok (Some (text_of (further_bytes (option_map (value_mark a.size) c) B)))) (Err (Broken (a.start + block)))) (Ok None)
    ≡ Ok (option_map (λ j. text_of (V j)) c)) [
      | None ↦ λ e. refl
      | Some i ↦ λ e.
          (let part : is_part 32 (V i) ≡ true = found_part (λ p. is_part 32 p ≡ true) K V (λ j. bytes_eq (key_at K j) key) 0 (count_of K) i (parts_all (λ p. is_part 32 p ≡ true) K V 0 (count_of K) (λ j from to. nodes.used j (omega arith))) e in
          ap (λ t. cond t (Ok (Some (text_of (V i)))) (Err (Broken (a.start + block)))) part)
    ] refl in
    subst (λ (t : Bool). got a key (answer_of (cond t (Done (AtLeaf path block K (further_bytes (cond (true && t) (option_map (value_mark a.size) (cell_of key K)) None) B))) (Done (AtBroken (a.start + block)))) A)
    ≡ Ok (found_in key (pairs_in zero (tree_at (cells_in a A) zero block)))) (sym nodes.keys)
    (at_true ∙ ap (λ o. Ok o) (sym (leaf_finds key K V 0 (count_of K))))
descend_gets a key A (suc level) block path low high nodes order =
    let B = block_at A (a.start + block) in
    let K = bytes_in (keys_mark a.size) B in
    let V : ℕ → List ℕ = λ i. bytes_in (value_mark a.size i) B in
    let p = place_of key K in
    let is = chosen_is a A level key low high K V (count_of K) order (parts_all (λ p. is_child a.blocks p ≡ true) K V 0 (count_of K) (λ j from to. nodes.0.used j (omega arith))) nodes.1 in
    let val : Bool → List ℕ = λ t. further_bytes (cond t (Some (value_mark a.size p)) None) B in
    let next : List ℕ → Program Descent = λ part. descend a key true level (child_of part) ((block, count_of K) ∷ path) in
    let goal = Ok (found_in key (pairs_in (suc level) (tree_at (cells_in a A) (suc level) block))) in
    subst (λ (t : Bool). got a key (answer_of (cond (t && is_child a.blocks (val t)) (next (val t)) (Done (AtBroken (a.start + block)))) A) ≡ goal) (sym nodes.0.keys)
    (subst (λ (u : Bool). got a key (answer_of (cond u (next (V p)) (Done (AtBroken (a.start + block)))) A) ≡ goal) (sym is.child)
    (descend_gets a key A level (child_of (V p)) ((block, count_of K) ∷ path) is.range.0 is.range.1 is.nodes is.range.2 ∙ ap (λ o. Ok o) (sym is.found)))

-- the region's map has a key where its pairs have it
pub map_gets : (a : Area) (A : Array) (key : List ℕ) → get (tree_map a A) key ≡ found_in key (tree_pairs a A)
unfolding tree_map
map_gets a A key = get-from_entries nat_list_cmp_total (tree_pairs a A) key

-- below the root of a well-formed region
below_gets : (a : Area) (A : Array) (key : List ℕ) → IsTreeRegion a A → answer_of (get_below a key (root_of a A) (level_of a A)) A ≡ Ok (get (tree_map a A) key)
below_gets a A key region = grind (arith, map_gets, answer_then, descend_gets) steps 100000

-- A get answers what the map of a well-formed region has.
pub get_answers : (a : Area) (A : Array) (key : List ℕ) → IsTreeRegion a A → is_key key ≡ true → answer_of (get_program a key) A ≡ Ok (get (tree_map a A) key)
unfolding get_program
get_answers a A key region is = grind (arith, get, below_gets) steps 100000

-- A get reads alone.
pub descend_reads : (a : Area) (key : List ℕ) (with_value : Bool) (level block : ℕ) (path : List (ℕ × ℕ)) (A : Array) → AreReads (accesses_of (descend a key with_value level block path) A)
descend_reads a key with_value zero block path A = grind (arith, cond_reads) steps 100000
descend_reads a key with_value (suc level) block path A =
    let B = block_at A (a.start + block) in
    let K = bytes_in (keys_mark a.size) B in
    let part = further_bytes (inner_further a key (suc level) K) B in
    (refl, cond_reads (is_node a.size (suc level) K && is_child a.blocks part) _ _ A (descend_reads a key with_value level (child_of part) ((block, count_of K) ∷ path) A) tt)

pub head_reads : {X : Type 0} (a : Area) (next : ℕ → ℕ → Program (Result X StoreError)) (A : Array) → AreReads (accesses_of (next (root_of a A) (level_of a A)) A)
    → AreReads (accesses_of (with_head a next) A)
head_reads a next A reads = (refl, cond_reads (is_head a (bytes_in head_mark (block_at A a.start))) _ _ A reads tt)

pub get_reads : (a : Area) (key : List ℕ) (A : Array) → AreReads (accesses_of (get_program a key) A)
unfolding get_program
get_reads a key A = cond_reads (is_key key) _ _ A
    (head_reads a (get_below a key) A
    (cond_reads (root_of a A == 0) _ _ A tt (reads_then (descend a key true (level_of a A) (root_of a A) []) (got a key) A (descend_reads a key true (level_of a A) (root_of a A) [] A)))) tt

-- A get is what the look-up in the region's map is.
pub get_correct : (a : Area) (key : List ℕ) → is_key key ≡ true → IsCorrect (IsTreeRegion a) (tree_map a) (get_op key) Ok (get_program a key)
get_correct a key is = grind (arith, same_ok, get_answers, own_reads, get_reads) steps 100000

pub get_local : (a : Area) (key : List ℕ) (A : Array) (r : Option (List ℕ)) → is_key key ≡ true → answer_of (get_program a key) A ≡ Ok r
    → IsLocal (IsTreeRegion a) (tree_map a) (get_op key) A (accesses_of (get_program a key) A) r
get_local a key A r is e = local_from (IsTreeRegion a) (tree_map a) (get_op key) Ok (get_program a key) A r (get_correct a key is) (whole_reads A (accesses_of (get_program a key) A) (get_reads a key A)) e
