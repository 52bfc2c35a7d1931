-- A removal is local.
use Rattle.iso_tree.proofs.{Words.{HasBlocks, whole_append, ◌≡◌, ◌≢◌, ◌∙◌, sym, refl, ap, subst, ℕ, ◌+◌, ◌<◌, ◌≤◌, ◌==◌, Bool, true, false, not, cond, List, [], ◌∷◌, length, Option, Some, None, Result, Ok, Err, option_map, is_some, arith, inl, inr, eq-eqb, ne_eqb, AllByRecursion, filter, bytes_eq, get, remove, cases_Bool, cases_eq, Area, StoreError, BadKey, Broken, Array, put, own, at_cell, is_key, del_op, block_at, Program, Done, bytes_in, then_do, accesses_of, answer_of, store_access, IsLocal, cell_count, keys_mark, value_mark, is_part, text_of, AreWhole, accesses_then, own_reads, whole_reads, IsCorrect, local_from, IsBlock, FitCells, Cell, cell_of, count_of, node_bytes, is_head, head_mark, Rise, in_range, tree_at, IsOrdered, Descent, AtLeaf, AtBroken, descend, with_head, without_key, edit_leaf, del_at, del_below, del_program, cells_in, root_of, level_of, IsTreeArea, IsTreeRegion, tree_pairs, tree_map, same_ok, found_in, length-filter_le, before, RiseAfter}, Building.filter_all, Bytes.length-node_bytes, Dels.{order_of, ends_of, answer_at, own_at, found_of, IsLeafEdit, leaf_written, edit_region, edit_pairs, edit_found, map_without, map_missing}, Edits.leaf_of, Facts.head_parts, Fits.{area_block, cells_fit, cells_few, rise_strict}, Gets.{descend_reads, map_gets, parts_all}, Leaves.{EndsAtLeaf, leaf_rises, HasLanded, lands}, Order.{before_trans, low_of, range_within}}

-- A leaf without some of its cells still rises.
rise_later : (last mid : List ℕ) (high : Option (List ℕ)) (cs : List Cell) → before last mid ≡ true → in_range last high mid ≡ true → RiseAfter mid high cs → RiseAfter last high cs
rise_later last mid high [] less inside is = tt
rise_later last mid high (d ∷ ds) less inside is = (before_trans last mid d.0 less is.0, range_within last mid high d.0 (low_of last high mid inside) is.1, is.2)

filter_after : (p : Cell → Bool) (last : List ℕ) (high : Option (List ℕ)) (cs : List Cell) → RiseAfter last high cs → RiseAfter last high (filter p cs)
filter_after p last high [] is = tt
filter_after p last high (c ∷ cs) is = elim (p c) as (λ b. RiseAfter last high (cond b (c ∷ filter p cs) (filter p cs))) [
  | true ↦ (is.0, is.1, filter_after p c.0 high cs is.2)
  | false ↦ rise_later last c.0 high (filter p cs) is.0 is.1 (filter_after p c.0 high cs is.2)
]

rise_from_after : (low mid : List ℕ) (high : Option (List ℕ)) (cs : List Cell) → in_range low high mid ≡ true → RiseAfter mid high cs → Rise low high cs
rise_from_after low mid high [] inside is = tt
rise_from_after low mid high (d ∷ ds) inside is = (range_within low mid high d.0 (low_of low high mid inside) is.1, is.2)

pub filter_rises : (p : Cell → Bool) (low : List ℕ) (high : Option (List ℕ)) (cs : List Cell) → Rise low high cs → Rise low high (filter p cs)
filter_rises p low high [] is = tt
filter_rises p low high (c ∷ cs) is = grind (arith, filter_after, rise_from_after) steps 100000

-- what a removal is to the map
record HasRemoved (a : Area) (key : List ℕ) (A : Array) (r : Bool) (C : Array) : Type 0 where
  found : is_some (get (tree_map a A) key) ≡ r
  region : IsTreeRegion a C
  map_is : tree_map a C ≡ remove (tree_map a A) key

empty_map : (a : Area) (key : List ℕ) (A : Array) → found_in key (tree_pairs a A) ≡ None → tree_map a A ≡ remove (tree_map a A) key
unfolding tree_map
empty_map a key A none = map_missing key (tree_pairs a A) none

-- a removal where the tree is not empty
module _ (a : Area) (key : List ℕ) (A : Array) (area : IsTreeArea a) (region : IsTreeRegion a A) (below : root_of a A < a.blocks) (some : root_of a A ≢ 0) where
  abbrev root : ℕ
  root = root_of a A

  abbrev level : ℕ
  level = level_of a A

  order : IsOrdered level [] None (tree_at (cells_in a A) level root)
  order = order_of a key A region below some

  ends : EndsAtLeaf a A key level root []
  ends = ends_of a key A region below some

  abbrev at : ℕ
  at = leaf_of (cells_in a A) key level root

  abbrev keys : List ℕ
  keys = bytes_in (keys_mark a.size) (block_at A (a.start + at))

  del_is : del_below a key root level ≡ then_do (descend a key false level root []) (del_at a key)
  del_is = ap (λ (b : Bool). cond b (Done (Ok false)) (then_do (descend a key false level root []) (del_at a key))) (ne_eqb root 0 some)

  answer_is : answer_of (del_below a key root level) A ≡ answer_of (del_at a key (AtLeaf ends.passed at keys ends.value)) A
  answer_is = ap (λ (p : Program (Result Bool StoreError)). answer_of p A) del_is ∙ answer_at a key A region below some (del_at a key)

  own_is : own A (accesses_of (del_below a key root level) A) ≡ own A (accesses_of (del_at a key (AtLeaf ends.passed at keys ends.value)) A)
  own_is = ap (λ (p : Program (Result Bool StoreError)). own A (accesses_of p A)) del_is ∙ own_at a key A region below some (del_at a key)

  found_is : found_in key (tree_pairs a A) ≡ option_map (λ j. text_of (bytes_in (value_mark a.size j) (block_at A (a.start + at)))) (cell_of key keys)
  found_is = found_of a key A region below some

  get_is : get (tree_map a A) key ≡ option_map (λ j. text_of (bytes_in (value_mark a.size j) (block_at A (a.start + at)))) (cell_of key keys)
  get_is = map_gets a A key ∙ found_is

  sized : IsBlock a.size
  sized = area_block a area

  abbrev cs : List Cell
  cs = without_key key (cells_in a A at)

  old_fit : FitCells (cells_in a A at)
  old_fit = cells_fit a.size 0 (block_at A (a.start + at)) sized (region.shape at ends.below) ends.node.keys

  new_fit : FitCells cs
  new_fit = filter_all (λ (c : Cell). (length c.0 ≤ 28) × (length c.1 ≡ 33)) (λ c. not (bytes_eq c.0 key)) (cells_in a A at) old_fit

  new_few : length cs ≤ cell_count a.size
  new_few = omega (arith, length-filter_le (λ c. not (bytes_eq c.0 key)) (cells_in a A at), cells_few a.size 0 (block_at A (a.start + at)) ends.node.keys)

  new_parts : AllByRecursion (λ (c : Cell). is_part 32 c.1 ≡ true) cs
  new_parts = filter_all (λ (c : Cell). is_part 32 c.1 ≡ true) (λ c. not (bytes_eq c.0 key)) (cells_in a A at)
      (parts_all (λ p. is_part 32 p ≡ true) keys (λ j. bytes_in (value_mark a.size j) (block_at A (a.start + at))) 0 (count_of keys) (λ j from to. ends.node.used j (omega arith)))

  keeps : (low : List ℕ) (high : Option (List ℕ)) → in_range low high key ≡ true → Rise low high (cells_in a A at) → Rise low high cs
  keeps low high inside rise = filter_rises (λ c. not (bytes_eq c.0 key)) low high (cells_in a A at) rise

  -- the array after a removal
  abbrev after : Array
  after = put A (store_access (a.start + at) [] (node_bytes a.size 0 cs))

  strict : Rattle.iso_tree.proofs.Passes.Strict cs
  strict =
      let range = leaf_rises (cells_in a A) key level root [] None order in
      rise_strict range.0 range.1 cs (filter_rises (λ c. not (bytes_eq c.0 key)) range.0 range.1 (cells_in a A at) range.2)

  edit : IsLeafEdit a A after at cs
  edit = leaf_written a A at cs sized (region.shape at ends.below) new_fit new_few new_parts strict

  after_region : IsTreeRegion a after
  after_region = edit_region a A after key cs region some ends.some ends.node edit keeps

  after_map : tree_map a after ≡ remove (tree_map a A) key
  unfolding tree_map
  after_map = map_without key (cells_in a A at) (tree_pairs a A) (tree_pairs a after)
      (edit_pairs a A after key cs region some ends.some ends.node edit keeps)
      (edit_found a A after key cs region some ends.some ends.node edit keeps)

  missing_map : cell_of key keys ≡ None → tree_map a A ≡ remove (tree_map a A) key
  unfolding tree_map
  missing_map none = map_missing key (tree_pairs a A) (found_is ∙ ap (option_map (λ j. text_of (bytes_in (value_mark a.size j) (block_at A (a.start + at))))) none)

  -- what the call does where the leaf has the key, and where it has not
  does : (o : Option ℕ) → cell_of key keys ≡ o → (r : Bool) → answer_of (del_below a key root level) A ≡ Ok r → HasRemoved a key A r (own A (accesses_of (del_below a key root level) A))
  does None none r is = grind (arith, same_ok, answer_is, own_is, get_is, region, missing_map) steps 100000
  does (Some i) found r is =
      let at_end : del_at a key (AtLeaf ends.passed at keys ends.value) ≡ edit_leaf a at (without_key key) (Ok true) = ap (λ (o : Option ℕ). at_cell o (λ i. edit_leaf a at (without_key key) (Ok true)) (Done (Ok false))) found in
      let answer : true ≡ r = same_ok true r StoreError (sym (answer_is ∙ ap (λ (p : Program (Result Bool StoreError)). answer_of p A) at_end) ∙ is) in
      let same : own A (accesses_of (del_below a key root level) A) ≡ after = own_is ∙ ap (λ (p : Program (Result Bool StoreError)). own A (accesses_of p A)) at_end in
      grind (arith, get_is, region, after_region, after_map)

empty_does : (a : Area) (key : List ℕ) (A : Array) → IsTreeRegion a A → root_of a A ≡ 0 → (r : Bool) → answer_of (del_below a key (root_of a A) (level_of a A)) A ≡ Ok r
    → HasRemoved a key A r (own A (accesses_of (del_below a key (root_of a A) (level_of a A)) A))
empty_does a key A region empty r is =
    let root = root_of a A in
    let level = level_of a A in
    let test : (root == 0) ≡ true = eq-eqb root 0 empty in
    let program : del_below a key root level ≡ Done (Ok false) = ap (λ (b : Bool). cond b (Done (Ok false)) (then_do (descend a key false level root []) (del_at a key))) test in
    let answer : false ≡ r = same_ok false r StoreError (sym (ap (λ (p : Program (Result Bool StoreError)). answer_of p A) program) ∙ is) in
    let same : own A (accesses_of (del_below a key root level) A) ≡ A = ap (λ (p : Program (Result Bool StoreError)). own A (accesses_of p A)) program in
    let none : found_in key (tree_pairs a A) ≡ None = ap (λ (t : Bool). found_in key (cond t [] (Rattle.store_model.specs.Trees.pairs_in level (tree_at (cells_in a A) level root)))) test in
    grind (arith, map_gets, empty_map)

below_does : (a : Area) (key : List ℕ) (A : Array) → IsTreeArea a → IsTreeRegion a A → (r : Bool) → answer_of (del_below a key (root_of a A) (level_of a A)) A ≡ Ok r
    → HasRemoved a key A r (own A (accesses_of (del_below a key (root_of a A) (level_of a A)) A))
below_does a key A area region r is = elim (cases_eq (root_of a A) 0) [
  | inl empty ↦ empty_does a key A region empty r is
  | inr some ↦ does a key A area region (head_parts a (bytes_in head_mark (block_at A a.start)) region.head).root some (cell_of key (keys a key A area region (head_parts a (bytes_in head_mark (block_at A a.start)) region.head).root some)) refl r is
]

-- the whole call
call_does : (a : Area) (key : List ℕ) (A : Array) → IsTreeArea a → is_key key ≡ true → IsTreeRegion a A → (r : Bool) → answer_of (del_program a key) A ≡ Ok r
    → HasRemoved a key A r (own A (accesses_of (del_program a key) A))
unfolding del_program
call_does a key A area key_is region r is =
    let answer : answer_of (cond (is_key key) (with_head a (del_below a key)) (Done (Err BadKey))) A ≡ answer_of (del_below a key (root_of a A) (level_of a A)) A =
    ap (λ (k : Bool). answer_of (cond k (with_head a (del_below a key)) (Done (Err BadKey))) A) key_is
    ∙ ap (λ (h : Bool). answer_of (cond h (del_below a key (root_of a A) (level_of a A)) (Done (Err (Broken a.start)))) A) region.head in
    let same : own A (accesses_of (cond (is_key key) (with_head a (del_below a key)) (Done (Err BadKey))) A) ≡ own A (accesses_of (del_below a key (root_of a A) (level_of a A)) A) =
    ap (λ (k : Bool). own A (accesses_of (cond k (with_head a (del_below a key)) (Done (Err BadKey))) A)) key_is
    ∙ ap (λ (h : Bool). own A (accesses_of (cond h (del_below a key (root_of a A) (level_of a A)) (Done (Err (Broken a.start)))) A)) region.head in
    subst (HasRemoved a key A r) (sym same) (below_does a key A area region r (sym answer ∙ is))

-- A removal is that of the region's map.
pub del_correct : (a : Area) (key : List ℕ) → IsTreeArea a → is_key key ≡ true → IsCorrect (IsTreeRegion a) (tree_map a) (del_op key) Ok (del_program a key)
del_correct a key area is = record {
  answer = λ B r region e. (call_does a key B area is region r e).found;
  well_formed = λ B r region e. (call_does a key B area is region r e).region;
  maps = λ B r region e. (call_does a key B area is region r e).map_is;
}

-- The call writes whole blocks, on whatever array.
del_whole_at : (a : Area) (key : List ℕ) (A : Array) (d : Descent) → IsBlock a.size → HasBlocks a A → HasLanded a A d → AreWhole A (accesses_of (del_at a key d) A)
del_whole_at a key A (AtBroken block) sized shape landed = tt
del_whole_at a key A (AtLeaf path leaf keys x) sized shape landed =
    let none : Program (Result Bool StoreError) = Done (Ok false) in
    let found : ℕ → Program (Result Bool StoreError) = λ i. edit_leaf a leaf (without_key key) (Ok true) in
    elim (cell_of key keys) as (λ o. AreWhole A (accesses_of (at_cell o found none) A)) [
      | None ↦ tt
      | Some i ↦
          (let long = shape leaf landed.below in
          let fit = cells_fit a.size 0 (block_at A (a.start + leaf)) sized long landed.node in
          let few = cells_few a.size 0 (block_at A (a.start + leaf)) landed.node in
          let p : Cell → Bool = λ c. not (bytes_eq c.0 key) in (
            λ write. absurd (Rattle.iso_tree.proofs.Facts.nothing_is write),
            (λ write. length-node_bytes a.size 0 (without_key key (cells_in a A leaf)) (filter_all (λ (c : Cell). (length c.0 ≤ 28) × (length c.1 ≡ 33)) p (cells_in a A leaf) fit) (omega (arith, length-filter_le p (cells_in a A leaf), few)) sized.whole ∙ sym long, tt),
          ))
    ]

del_whole_below : (a : Area) (key : List ℕ) (A : Array) (root level : ℕ) → IsBlock a.size → HasBlocks a A → root < a.blocks → AreWhole A (accesses_of (del_below a key root level) A)
del_whole_below a key A root level sized shape below = grind (arith, own_reads, descend_reads, accesses_then, whole_append, whole_reads, del_whole_at, lands) steps 100000

pub del_whole : (a : Area) (key : List ℕ) (A : Array) → IsBlock a.size → HasBlocks a A → AreWhole A (accesses_of (del_program a key) A)
unfolding del_program
del_whole a key A sized shape =
    elim (is_key key) as (λ k. AreWhole A (accesses_of (cond k (with_head a (del_below a key)) (Done (Err BadKey))) A)) [
      | false ↦ tt
      | true ↦ (
        λ write. absurd (Rattle.iso_tree.proofs.Facts.nothing_is write),
        elim (cases_Bool (is_head a (bytes_in head_mark (block_at A a.start)))) [
          | inl good ↦
              subst (λ (h : Bool). AreWhole A (accesses_of (cond h (del_below a key (root_of a A) (level_of a A)) (Done (Err (Broken a.start)))) A)) (sym good)
              (del_whole_below a key A (root_of a A) (level_of a A) sized shape (head_parts a (bytes_in head_mark (block_at A a.start)) good).root)
          | inr bad ↦ subst (λ (h : Bool). AreWhole A (accesses_of (cond h (del_below a key (root_of a A) (level_of a A)) (Done (Err (Broken a.start)))) A)) (sym bad) tt
        ],
      )
    ]

pub del_local : (a : Area) (key : List ℕ) (A : Array) (r : Bool) → IsTreeArea a → is_key key ≡ true → HasBlocks a A → answer_of (del_program a key) A ≡ Ok r
    → IsLocal (IsTreeRegion a) (tree_map a) (del_op key) A (accesses_of (del_program a key) A) r
del_local a key A r area is shape e =
    local_from (IsTreeRegion a) (tree_map a) (del_op key) Ok (del_program a key) A r (del_correct a key area is) (del_whole a key A (area_block a area) shape) e
