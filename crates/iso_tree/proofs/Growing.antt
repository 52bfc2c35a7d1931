-- What is written where a put takes blocks: how many writes, which root, and the bytes of the map.
use Rattle.iso_tree.proofs.{Words.{◌≡◌, ◌≢◌, ◌∙◌, sym, refl, ap, ℕ, zero, suc, ◌+◌, ◌*◌, ◌%◌, ◌<◌, ◌≤◌, ◌==◌, Bool, true, false, not, cond, nat_le, List, [], ◌∷◌, length, take, get_or, set, Option, Some, None, arith, inl, inr, eq-eqb, ne_eqb, AllByRecursion, filter, range_with_len, bit_at, cases_eq, get_or-take, map_bit, free_count, with_bit, bit_place, set_bit, IsIn, Cell, child_part, Put, halves, fit, Climb, climb, climb_on, placed, full_row, need_of, with_used, length-placed, subst, ◌-◌, ◌/◌, ◌++◌, drop, w32, to_be_bytes, Span, Area, block_with, laid_at, map_bytes, IsSpan, store_access, Tx, with_accesses, Up, ends, first_access, head_mark, AreBlocks, last_of, changed_mark, changed_map, IsTreeArea, piece_of}, Climbing.one_way, Enough.counts, Order.length-put_after}

-- THE BITS OF A PART OF A BLOCK
module _ (F : List ℕ) (m : ℕ) where
  pub bit_same : (k : ℕ) → bit_place k < m → map_bit (take m F) k ≡ map_bit F k
  bit_same k inside = ap (λ (x : ℕ). bit_at x (k % 8) == 1) (get_or-take m F (bit_place k) 0 inside)

  pub count_same : (from n : ℕ) → ((k : ℕ) → k < from + n → bit_place k < m) → free_count (take m F) from n ≡ free_count F from n
  count_same from zero inside = refl
  count_same from (suc n) inside =
      (λ i. cond (bit_same from (inside from (omega arith)) i) 0 1 + count_same (from + 1) n (λ k low. inside k (omega arith)) i)

  pub list_same : (from n : ℕ) → ((k : ℕ) → k < from + n → bit_place k < m) → filter (λ k. not (map_bit (take m F) k)) (range_with_len from n) ≡ filter (λ k. not (map_bit F k)) (range_with_len from n)
  list_same from zero inside = refl
  list_same from (suc n) inside =
      (λ i. cond (not (bit_same from (inside from (omega arith)) i)) (from ∷ list_same (from + 1) n (λ k low. inside k (omega arith)) i) (list_same (from + 1) n (λ k low. inside k (omega arith)) i))

take_set : (m : ℕ) (xs : List ℕ) (p v : ℕ) → p < m → take m (set xs p v) ≡ set (take m xs) p v
take_set zero xs p v inside = absurd (omega arith)
take_set (suc m) [] p v inside = refl
take_set (suc m) (x ∷ xs) zero v inside = refl
take_set (suc m) (x ∷ xs) (suc p) v inside = ap (λ l. x ∷ l) (take_set m xs p v (omega arith))

pub take_used : (m : ℕ) (ks F : List ℕ) → ((k : ℕ) → IsIn k ks → bit_place k < m) → take m (with_used F ks) ≡ with_used (take m F) ks
take_used m [] F inside = refl
take_used m (k ∷ ks) F inside =
    let here = inside k (inl refl) in
    take_used m ks (with_bit F k) (λ j is. inside j (inr is))
    ∙ ap (λ l. with_used l ks) (take_set m F (bit_place k) (set_bit (get_or F (bit_place k) 0) k) here
    ∙ ap (λ (x : ℕ). set (take m F) (bit_place k) (set_bit x k)) (sym (get_or-take m F (bit_place k) 0 here)))

-- THE SHAPE OF A WAY UP
pub record IsShaped (n level : ℕ) (nodes : List (ℕ × List Cell)) (news : List ℕ) (way : Climb) : Type 0 where
  pub count : length way.writes ≡ 2 * full_row n (counts nodes) + 1
  pub root : way.root ≡ cond (full_row n (counts nodes) == length nodes) (Some (get_or news (length nodes) 0, level + length nodes)) None

-- a node with cells has one more
some_placed : (n level : ℕ) (key : List ℕ) (new : Cell) (cs : List Cell) → 1 ≤ n → length cs ≡ n → n < length (placed level key new cs)
some_placed n zero key new cs some long = omega (arith, length-put_after key new cs)
some_placed n (suc level) key new [] some long = absurd (omega arith)
some_placed n (suc level) key new (c ∷ cs) some long = omega (arith, length-put_after key new cs)

one_shape : (n level : ℕ) (node : ℕ × List Cell) (nodes : List (ℕ × List Cell)) (news : List ℕ) (way : Climb) (w : ℕ × ℕ × List Cell) → length node.1 ≢ n → way ≡ record { writes = w ∷ []; root = None } → IsShaped n level (node ∷ nodes) news way
one_shape n level node nodes news way w other is = grind arith steps 100000

length-counts : (nodes : List (ℕ × List Cell)) → length (counts nodes) ≡ length nodes
length-counts [] = refl
length-counts (w ∷ nodes) = ap suc (length-counts nodes)

abbrev pair_some : ℕ → ℕ → Option (ℕ × ℕ)
pair_some x m = Some (x, m)

same_root : (r l row x i j : ℕ) → row ≡ suc r → i ≡ j → cond {A = Option (ℕ × ℕ)} (r == l) (Some (x, i)) None ≡ cond {A = Option (ℕ × ℕ)} (row == suc l) (Some (x, j)) None
same_root r l row x i j row_is next = grind arith steps 100000

pub climb_shape : (n : ℕ) (key : List ℕ) (level : ℕ) (new : Cell) (below : ℕ) (nodes : List (ℕ × List Cell)) (news : List ℕ) → 1 ≤ n → AllByRecursion (λ (w : ℕ × List Cell). length w.1 ≤ n) nodes → need_of n (counts nodes) ≤ length news
    → IsShaped n level nodes news (climb n key level new below nodes news)
climb_shape n key level new below [] [] some few enough = absurd (omega arith)
climb_shape n key level new below [] (r ∷ news) some few enough = record { count = refl; root = let e : level ≡ level + 0 = omega arith in ap (λ (l : ℕ). Some (r, l)) e }
climb_shape n key level new below (node ∷ nodes) [] some few enough = grind (arith, one_shape, one_way, length-placed) steps 100000
climb_shape n key level new below (node ∷ nodes) (r ∷ news) some few enough = elim (cases_eq (length node.1) n) [
  | inr other ↦ one_shape n level node nodes (r ∷ news) _ (node.0, level, placed level key new node.1) other (one_way n key level new below node nodes (r ∷ news) (omega (arith, few.0, other, length-placed level key new node.1)))
  | inl full ↦
      (let e : (length node.1 == n) ≡ true = eq-eqb (length node.1) n full in
      let row : full_row n (counts (node ∷ nodes)) ≡ suc (full_row n (counts nodes)) = ap (λ t. cond t (suc (full_row n (counts nodes))) 0) e in
      let long : n < length (placed level key new node.1) = some_placed n level key new node.1 some full in
      let fits : nat_le (length (placed level key new node.1)) n ≡ false = grind (arith, Rattle.std.proofs.lemmas.Bool.Decides.nat_tests) in
      let count_is : length (counts nodes) ≡ length nodes = length-counts nodes in
      let rest_enough : need_of n (counts nodes) ≤ length news = elim (cases_eq (full_row n (counts nodes)) (length (counts nodes))) [
        | inl all ↦
            (let t : (full_row n (counts nodes) == length (counts nodes)) ≡ true = eq-eqb (full_row n (counts nodes)) (length (counts nodes)) all in
            let s : (full_row n (counts (node ∷ nodes)) == suc (length (counts nodes))) ≡ true = eq-eqb (full_row n (counts (node ∷ nodes))) (suc (length (counts nodes))) (row ∙ ap suc all) in
            let g : need_of n (counts (node ∷ nodes)) ≡ full_row n (counts (node ∷ nodes)) + 1 = ap (λ (b : Bool). full_row n (counts (node ∷ nodes)) + cond b 1 0) s in
            let k : need_of n (counts nodes) ≡ full_row n (counts nodes) + 1 = ap (λ (b : Bool). full_row n (counts nodes) + cond b 1 0) t in
            omega arith)
        | inr part ↦
            (let t : (full_row n (counts nodes) == length (counts nodes)) ≡ false = ne_eqb (full_row n (counts nodes)) (length (counts nodes)) part in
            let k : need_of n (counts nodes) ≡ full_row n (counts nodes) + 0 = ap (λ (b : Bool). full_row n (counts nodes) + cond b 1 0) t in
            omega arith)
      ] in
      let on : Put → Climb = λ q. climb_on q (λ s. climb n key (suc level) (s.0, child_part s.1) node.0 nodes q.left) q.second in
      let split : fit n level node.0 (placed level key new node.1) (r ∷ news) ≡ halves n level node.0 (placed level key new node.1) (r ∷ news) =
      ap (λ (t : Bool). cond t (record { writes = (node.0, level, placed level key new node.1) ∷ []; second = None; taken = []; left = r ∷ news; enough = true }) (halves n level node.0 (placed level key new node.1) (r ∷ news))) fits in
      let h = halves n level node.0 (placed level key new node.1) (r ∷ news) in
      let ih = climb_shape n key (suc level) (Rattle.store_model.specs.Trees.first_key (Rattle.std.proofs.Common.drop (Rattle.store_model.specs.Trees.half n) (placed level key new node.1)), child_part r) node.0 nodes news some few.1 rest_enough in
      let whole : climb n key level new below (node ∷ nodes) (r ∷ news) ≡ on h = ap on split in
      let next : suc level + length nodes ≡ level + suc (length nodes) = omega arith in
      record {
        count = ap (λ (c : Climb). length c.writes) whole ∙ ap (λ (k : ℕ). suc (suc k)) ih.count ∙ omega arith;
        root = ap (λ (c : Climb). c.root) whole ∙ ih.root
            ∙ same_root (full_row n (counts nodes)) (length nodes) (full_row n (counts (node ∷ nodes))) (get_or news (length nodes) 0) (suc level + length nodes) (level + suc (length nodes)) row next;
      })
]

-- The bytes and marks of the first block's write, as the code makes them.
pub ends_at : (news : List ℕ) → 0 < length news → (get_or news 0 0, get_or news (length news - 1) 0) ≡ ends news
ends_at [] some = absurd (omega arith)
ends_at (k ∷ []) some = refl
ends_at (k ∷ j ∷ ks) some =
    let e : suc (suc (length ks)) - 1 ≡ suc (length ks) = omega arith in
    let f : suc (length ks) - 1 ≡ length ks = omega arith in
    let rest : get_or (j ∷ ks) (length ks) 0 ≡ last_of j ks = ap (λ (n : ℕ). get_or (j ∷ ks) n 0) (sym f) ∙ ap (λ (x : ℕ × ℕ). x.1) (ends_at (j ∷ ks) (omega arith)) in
    ap (λ (n : ℕ). (k, get_or (k ∷ j ∷ ks) n 0)) e ∙ ap (λ (n : ℕ). (k, n)) rest

last_below : (a : Area) (k : ℕ) (ks : List ℕ) → k < a.blocks → AreBlocks a ks → last_of k ks < a.blocks
last_below a k [] below all = below
last_below a k (j ∷ ks) below all = last_below a j ks all.0 all.1

last_up : (k : ℕ) (ks : List ℕ) → Up (suc k) ks → k ≤ last_of k ks
last_up k [] up = omega arith
last_up k (j ∷ ks) up = let rest = last_up j ks up.1 in omega (arith, up.0, rest)

-- where the changed bytes lie
pub record HasEnds (a : Area) (low high : ℕ) : Type 0 where
  pub rising : low ≤ high
  pub below : high < a.blocks

pub ends_are : (a : Area) (news : List ℕ) → 0 < length news → Up 1 news → AreBlocks a news → HasEnds a (ends news).0 (ends news).1
ends_are a [] some up all = absurd (omega arith)
ends_are a (k ∷ ks) some up all = record { rising = last_up k ks up.1; below = last_below a k ks all.0 all.1 }

pub mark_is : (news : List ℕ) → 0 < length news → ◌≡◌ {A = Span} (record { off = 64 + (ends news).0 / 8; len = (ends news).1 / 8 + 1 - (ends news).0 / 8 }) (changed_mark news)
mark_is [] some = absurd (omega arith)
mark_is (k ∷ ks) some = refl

module _ (a : Area) (area : IsTreeArea a) (map news : List ℕ) (long : length map ≡ a.size) (some : 0 < length news) (up : Up 1 news) (all : AreBlocks a news) (first : List ℕ)
    (used : take (64 + map_bytes a.blocks) map ≡ with_used first news) where
  abbrev low : ℕ
  low = (ends news).0

  abbrev high : ℕ
  high = (ends news).1

  abbrev mark : Span
  mark = record { off = 64 + low / 8; len = high / 8 + 1 - low / 8 }

  mark_fits : mark.off + mark.len ≤ 64 + map_bytes a.blocks
  mark_fits = let e = ends_are a news some up all in let r = e.rising in let b = e.below in omega arith

  pub map_is : block_with (length map) (64 + low / 8) (take (high / 8 + 1 - low / 8) (drop (64 + low / 8) map)) ≡ changed_map a first news
  map_is = grind (arith, piece_of, mark_fits, mark_is) steps 100000

  pub stored_map : (t u : Tx) (span : Span) (bytes : List ℕ) → span ≡ mark → bytes ≡ block_with (length map) (64 + low / 8) (take (high / 8 + 1 - low / 8) (drop (64 + low / 8) map))
      → u ≡ with_accesses t (store_access a.start (span ∷ []) bytes ∷ []) → u ≡ with_accesses t (first_access a first news None ∷ [])
  stored_map t u span bytes span_is bytes_is is =
      is ∙ (λ i. with_accesses t (store_access a.start ((span_is ∙ mark_is news some) i ∷ []) ((bytes_is ∙ map_is) i) ∷ []))

  pub stored_root : (t u : Tx) (span : Span) (bytes : List ℕ) (root : ℕ × ℕ) → span ≡ mark
      → bytes ≡ laid_at 0 (to_be_bytes w32 root.0 ++ to_be_bytes w32 root.1) (block_with (length map) (64 + low / 8) (take (high / 8 + 1 - low / 8) (drop (64 + low / 8) map)))
      → u ≡ with_accesses t (store_access a.start (span ∷ head_mark ∷ []) bytes ∷ []) → u ≡ with_accesses t (first_access a first news (Some root) ∷ [])
  stored_root t u span bytes root span_is bytes_is is =
      is ∙ (λ i. with_accesses t (store_access a.start ((span_is ∙ mark_is news some) i ∷ head_mark ∷ []) ((bytes_is ∙ ap (laid_at 0 (to_be_bytes w32 root.0 ++ to_be_bytes w32 root.1)) map_is) i) ∷ []))

-- the mark lies in the block
pub mark_inside : (a : Area) (area : IsTreeArea a) (low high size : ℕ) (span : Span) → HasEnds a low high → size ≡ a.size → span ≡ record { off = 64 + low / 8; len = high / 8 + 1 - low / 8 } → IsSpan size span
mark_inside a area low high size span has same is = grind arith steps 100000

pub ends_of : (a : Area) (news : List ℕ) (x : ℕ × ℕ) → 0 < length news → Up 1 news → AreBlocks a news → x ≡ ends news → HasEnds a x.0 x.1
ends_of a news x some up all is = subst (λ (y : ℕ × ℕ). HasEnds a y.0 y.1) (sym is) (ends_are a news some up all)
