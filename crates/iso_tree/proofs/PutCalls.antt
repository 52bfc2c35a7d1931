-- A put is that of the region's map.
use Rattle.iso_tree.proofs.{Words.{◌≡◌, ◌≢◌, ◌∙◌, sym, refl, ap, subst, ℕ, suc, ◌+◌, ◌*◌, ◌-◌, ◌<◌, ◌≤◌, Bool, true, false, cond, nat_le, List, [], ◌∷◌, map, take, length, Option, Some, None, Result, Ok, Err, arith, inl, inr, eq-eqb, ne_eqb, nat_lt, AllByRecursion, cases_Bool, cases_eq, leb-true, ltb-true, nat_tests, Area, StoreError, BadKey, BadValue, Broken, NoBlocks, Array, put, own, at_cell, is_key, is_value, put_op, block_at, Program, Done, Store, bytes_in, then_do, accesses_of, answer_of, cell_count, keys_end, value_mark, value_part, block_with, map_mark, free_count, IsCorrect, Cell, cell_of, count_of, head_mark, put_after, AtLeaf, descend, with_head, look_again, climb, store_nodes, first_write, put_writes, with_map, edit_leaf, put_at, put_below_root, put_program, Answer, full_row, need_of, free_list, cells_in, root_of, level_of, IsTreeArea, IsTreeRegion, tree_pairs, tree_map, first_access}, Again.{nodes_at, again_own}, Dels.{at, keys, ends_of, answer_at, own_at}, Enough.{path_below, counts}, Facts.{head_parts, node_parts}, Fits.length-cells, NewBlocks.{IsPair, pair_is, empty_does, some_does}, PutLeaf.{lacks, room_does, found_does}, Regions.HasPutInto, Stored.{stored, stored_own}, Taking.{AreTaken, taken_are}}

pub first_own : {R : Type 0} (a : Area) (A : Array) (first taken : List ℕ) (root : Option (ℕ × ℕ)) (next : Program R)
    → own A (accesses_of (first_write a first taken root next) A) ≡ own (put A (first_access a first taken root)) (accesses_of next (put A (first_access a first taken root)))
first_own a A first taken root next = grind arith

no_answer : (e : StoreError) (r : Unit {0}) → ◌≡◌ {A = Result (Unit {0}) StoreError} (Err e) (Ok r) → ⊥
no_answer e r is = cc

-- a put that reads the map
map_does : (a : Area) (area : IsTreeArea a) (key text : List ℕ) (A : Array) (path : List (ℕ × ℕ))
    → ((taken : List ℕ) → AreTaken a (bytes_in (map_mark a.blocks) (block_at A a.start)) (need_of (cell_count a.size) path) taken
    → HasPutInto a key text A (stored a (put A (first_access a (bytes_in (map_mark a.blocks) (block_at A a.start)) taken
    (climb (cell_count a.size) key 0 (key, value_part text) 0 (nodes_at (cells_in a A) (map (λ p. p.0) (take (suc (full_row (cell_count a.size) path)) path))) taken).root))
    (climb (cell_count a.size) key 0 (key, value_part text) 0 (nodes_at (cells_in a A) (map (λ p. p.0) (take (suc (full_row (cell_count a.size) path)) path))) taken).writes))
    → (r : Unit {0}) → answer_of (with_map a key text path) A ≡ Ok r → HasPutInto a key text A (own A (accesses_of (with_map a key text path) A))
map_does a area key text A path works r is =
    let first = bytes_in (map_mark a.blocks) (block_at A a.start) in
    let n = cell_count a.size in
    let need = need_of n path in
    let free = free_count first 1 (a.blocks - 1) in
    let taken = take need (free_list a first) in
    let blocks = map (λ (p : ℕ × ℕ). p.0) (take (suc (full_row n path)) path) in
    let nodes = nodes_at (cells_in a A) blocks in
    let way = climb n key 0 (key, value_part text) 0 nodes taken in
    let f : List (ℕ × List Cell) → Program Answer = λ nodes. put_writes a first taken (climb n key 0 (key, value_part text) 0 nodes taken) in
    elim (cases_Bool (nat_lt free need)) [
      | inl few ↦ absurd (no_answer (NoBlocks need free) r (sym (ap (λ (t : Bool). answer_of (cond t (Done (Err (NoBlocks need free))) (look_again a blocks f)) A) few) ∙ is))
      | inr enough ↦
          (let le : need ≤ free = grind (arith, nat_tests) in
          let same : own A (accesses_of (cond (nat_lt free need) (Done (Err (NoBlocks need free))) (look_again a blocks f)) A) ≡ stored a (put A (first_access a first taken way.root)) way.writes =
          ap (λ (t : Bool). own A (accesses_of (cond t (Done (Err (NoBlocks need free))) (look_again a blocks f)) A)) enough
          ∙ again_own a A blocks f
          ∙ first_own a A first taken way.root (store_nodes a way.writes (Done (Ok tt)))
          ∙ stored_own a (Ok tt) way.writes (put A (first_access a first taken way.root)) in
          subst (HasPutInto a key text A) (sym same) (works taken (taken_are a first need (let l = area.least in omega arith) le)))
    ]

-- a put where the tree is not empty
module _ (a : Area) (area : IsTreeArea a) (A : Array) (region : IsTreeRegion a A) (key text : List ℕ) (pair : IsPair key text) (below : root_of a A < a.blocks) (some : root_of a A ≢ 0) where
  abbrev root : ℕ
  root = root_of a A

  abbrev level : ℕ
  level = level_of a A

  abbrev leaf : ℕ
  leaf = at a key A region below some

  abbrev K : List ℕ
  K = keys a key A region below some

  abbrev n : ℕ
  n = cell_count a.size

  abbrev value : List ℕ
  value = value_part text

  abbrev path : List (ℕ × ℕ)
  path = (leaf, count_of K) ∷ (ends_of a key A region below some).passed

  abbrev rest : Program Answer
  rest = put_at a key text (AtLeaf (ends_of a key A region below some).passed leaf K (ends_of a key A region below some).value)

  count : length (cells_in a A leaf) ≡ count_of K
  count = length-cells K (λ i. bytes_in (value_mark a.size i) (block_at A (a.start + leaf))) 0 (count_of K)

  few : count_of K ≤ n
  few = (node_parts a.size 0 K (ends_of a key A region below some).node.keys).few

  way : path ≡ counts (path_below (cells_in a A) key level root)
  way = (ends_of a key A region below some).way ∙ Rattle.std.proofs.lemmas.List.append-nil (counts (path_below (cells_in a A) key level root))

  -- the leaf is full
  full_does : cell_of key K ≡ None → count_of K ≡ n → (r : Unit {0}) → answer_of (with_map a key text path) A ≡ Ok r → HasPutInto a key text A (own A (accesses_of (with_map a key text path) A))
  full_does none full r is = map_does a area key text A path
      (λ taken are.
      let one : 1 ≤ full_row n path = subst (λ (t : Bool). 1 ≤ cond t (suc (full_row n (ends_of a key A region below some).passed)) 0) (sym (eq-eqb (count_of K) n full)) (omega arith) in
      subst (λ (p : List (ℕ × ℕ)). HasPutInto a key text A (stored a (put A (first_access a (bytes_in (map_mark a.blocks) (block_at A a.start)) taken
      (climb n key 0 (key, value) 0 (nodes_at (cells_in a A) (map (λ v. v.0) (take (suc (full_row n p)) p))) taken).root))
      (climb n key 0 (key, value) 0 (nodes_at (cells_in a A) (map (λ v. v.0) (take (suc (full_row n p)) p))) taken).writes)) (sym way)
      (some_does a area A region key text pair (lacks a area A region key text pair below some none) (need_of n path) taken are some below (ap (need_of n) way) (subst (λ (p : List (ℕ × ℕ)). 1 ≤ full_row n p) way one))) r is

  none_does : cell_of key K ≡ None → (r : Unit {0}) → answer_of (cond (nat_lt (count_of K) n) (edit_leaf a leaf (put_after key (key, value)) (Ok tt)) (with_map a key text path)) A ≡ Ok r
      → HasPutInto a key text A (own A (accesses_of (cond (nat_lt (count_of K) n) (edit_leaf a leaf (put_after key (key, value)) (Ok tt)) (with_map a key text path)) A))
  none_does none r =
      elim (nat_lt (count_of K) n) as (λ t. nat_lt (count_of K) n ≡ t → answer_of (cond t (edit_leaf a leaf (put_after key (key, value)) (Ok tt)) (with_map a key text path)) A ≡ Ok r
      → HasPutInto a key text A (own A (accesses_of (cond t (edit_leaf a leaf (put_after key (key, value)) (Ok tt)) (with_map a key text path)) A))) [
        | true ↦ λ room e. room_does a area A region key text pair below some none (omega (arith, count, ltb-true (count_of K) n room))
        | false ↦ λ not e. full_does none (let least : n ≤ count_of K = grind (arith, nat_tests) in let most = few in omega arith) r e
      ] refl

  abbrev put_here : ℕ → Program Answer
  put_here i = Store (a.start + leaf) (value_mark a.size i ∷ []) (block_with a.size (keys_end a.size + 33 * i) value) (Done (Ok tt))

  leaf_does : (r : Unit {0}) → answer_of rest A ≡ Ok r → HasPutInto a key text A (own A (accesses_of rest A))
  leaf_does r =
      elim (cell_of key K) as (λ o. cell_of key K ≡ o
      → answer_of (at_cell o put_here
      (cond (nat_lt (count_of K) n) (edit_leaf a leaf (put_after key (key, value)) (Ok tt)) (with_map a key text path))) A ≡ Ok r
      → HasPutInto a key text A (own A (accesses_of (at_cell o put_here
      (cond (nat_lt (count_of K) n) (edit_leaf a leaf (put_after key (key, value)) (Ok tt)) (with_map a key text path))) A))) [
        | None ↦ λ none e. none_does none r e
        | Some i ↦ λ found e. found_does a area A region key text pair below some i found
      ] refl

  below_is : put_below_root a key text root level ≡ then_do (descend a key false level root []) (put_at a key text)
  below_is = ap (λ (b : Bool). cond b (with_map a key text []) (then_do (descend a key false level root []) (put_at a key text))) (ne_eqb root 0 some)

  some_below : (r : Unit {0}) → answer_of (put_below_root a key text root level) A ≡ Ok r → HasPutInto a key text A (own A (accesses_of (put_below_root a key text root level) A))
  some_below r is =
      let answer = ap (λ (p : Program Answer). answer_of p A) below_is ∙ answer_at a key A region below some (put_at a key text) in
      let same = ap (λ (p : Program Answer). own A (accesses_of p A)) below_is ∙ own_at a key A region below some (put_at a key text) in
      subst (HasPutInto a key text A) (sym same) (leaf_does r (sym answer ∙ is))

below_does : (a : Area) (area : IsTreeArea a) (A : Array) (region : IsTreeRegion a A) (key text : List ℕ) (pair : IsPair key text) (r : Unit {0}) → answer_of (put_below_root a key text (root_of a A) (level_of a A)) A ≡ Ok r
    → HasPutInto a key text A (own A (accesses_of (put_below_root a key text (root_of a A) (level_of a A)) A))
below_does a area A region key text pair r is = elim (cases_eq (root_of a A) 0) [
  | inr some ↦ some_below a area A region key text pair (head_parts a (bytes_in head_mark (block_at A a.start)) region.head).root some r is
  | inl empty ↦
      (let e : put_below_root a key text (root_of a A) (level_of a A) ≡ with_map a key text [] =
      ap (λ (b : Bool). cond b (with_map a key text []) (then_do (descend a key false (level_of a A) (root_of a A) []) (put_at a key text))) (eq-eqb (root_of a A) 0 empty) in
      let none : tree_pairs a A ≡ [] = ap (λ (t : Bool). cond t [] (Rattle.store_model.specs.Trees.pairs_in (level_of a A) (Rattle.store_model.specs.Trees.tree_at (cells_in a A) (level_of a A) (root_of a A)))) (eq-eqb (root_of a A) 0 empty) in
      subst (HasPutInto a key text A) (sym (ap (λ (p : Program Answer). own A (accesses_of p A)) e))
      (map_does a area key text A []
      (λ taken are.
      let one = Rattle.iso_tree.proofs.NewBlocks.one_list taken are.count in
      empty_does a area A region key text pair (subst (AllByRecursion (λ (p : List ℕ × List ℕ). key ≢ p.0)) (sym none) tt) 1 taken are empty one.0 one.1)
      r (sym (ap (λ (p : Program Answer). answer_of p A) e) ∙ is)))
]

call_does : (a : Area) (key text : List ℕ) (A : Array) → IsTreeArea a → is_key key ≡ true → is_value text ≡ true → IsTreeRegion a A → (r : Unit {0}) → answer_of (put_program a key text) A ≡ Ok r
    → HasPutInto a key text A (own A (accesses_of (put_program a key text) A))
unfolding put_program
call_does a key text A area key_is value_is region r is =
    let call : (k v : Bool) → Program Answer = λ k v. cond k (cond v (with_head a (put_below_root a key text)) (Done (Err BadValue))) (Done (Err BadKey)) in
    let below = put_below_root a key text (root_of a A) (level_of a A) in
    let answer : answer_of (call (is_key key) (is_value text)) A ≡ answer_of below A =
    (λ i. answer_of (call (key_is i) (value_is i)) A) ∙ ap (λ (h : Bool). answer_of (cond h below (Done (Err (Broken a.start)))) A) region.head in
    let same : own A (accesses_of (call (is_key key) (is_value text)) A) ≡ own A (accesses_of below A) =
    (λ i. own A (accesses_of (call (key_is i) (value_is i)) A)) ∙ ap (λ (h : Bool). own A (accesses_of (cond h below (Done (Err (Broken a.start)))) A)) region.head in
    let short : length key ≤ 28 = leb-true _ _ (Rattle.std.proofs.lemmas.Bool.and_parts (nat_le 1 (length key)) (nat_le (length key) 28) key_is).1 in
    subst (HasPutInto a key text A) (sym same) (below_does a area A region key text (pair_is key text short (leb-true (length text) 32 value_is)) r (sym answer ∙ is))

-- A put is that of the region's map.
pub put_correct : (a : Area) (key text : List ℕ) → IsTreeArea a → is_key key ≡ true → is_value text ≡ true → IsCorrect (IsTreeRegion a) (tree_map a) (put_op key text) Ok (put_program a key text)
put_correct a key text area key_is value_is = record {
  answer = λ B r region e. refl;
  well_formed = λ B r region e. (call_does a key text B area key_is value_is region r e).region;
  maps = λ B r region e. (call_does a key text B area key_is value_is region r e).map_is;
}
