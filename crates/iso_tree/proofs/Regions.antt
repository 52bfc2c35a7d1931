-- A region whose tree has a new pair is well formed, and its map has the pair.
use Rattle.iso_tree.proofs.{Words.{◌≡◌, ◌≢◌, ◌⊎◌, ◌∙◌, sym, refl, ap, subst, ℕ, ◌+◌, ◌*◌, ◌%◌, ◌^◌, ◌<◌, ◌≤◌, ◌==◌, not, Bool, true, false, cond, nat_le, List, [], ◌∷◌, ◌++◌, length, Option, Some, None, arith, inl, inr, ne_eqb, nat_lt, AllByRecursion, list_all, w32, to_be_bytes, from_be_bytes, bit_at, nat_cmp, eq_by_cmp, slice_cmp, insert, and_from, or_left, both_ways, cases_eq, cases_Bool, nat_tests, append-nil, take_at, get_or-take, from_be_bytes-to_be_bytes_4, bytes_eq-Decides, Area, Array, merged, put, IsIn, block_at, bytes_in, store_access, word_at, is_zero, map_bytes, map_bit, map_mark, bit_place, length-block_put, written_block, other_block, Cell, head_mark, is_head, node_bytes, used_cells, tree_at, pairs_in, nodes_in, IsApart, IsOrdered, cells_in, root_of, level_of, AreNodes, IsTreeArea, IsTreeRegion, tree_pairs, tree_nodes, tree_map, first_spans, first_bytes, first_access, found_in, ties, in_front, in_back, in_cases}, Blocks.{grown_apart, grown_in, apart_join, tree_same}, MapBits.{bits_after, zeros_after, head_kept, head_new}, Roots.map_put, Shapes.{IsAdded, IsGrown}, Stored.{stored, spots, stored_kept, stored_shape, nodes_same}, Taking.{AreTaken, up_apart}}

added_has : (x k : ℕ) (old new : List ℕ) → IsAdded x old new → (x ≡ k) ⊎ IsIn k old → IsIn k new
added_has x k old new is has = subst (λ (l : List ℕ). IsIn k l) (sym is.3) (elim has [
  | inl here ↦ in_back k is.0 (x ∷ is.1) (inl here)
  | inr old ↦ elim (in_cases k is.0 is.1 (subst (λ (l : List ℕ). IsIn k l) is.2 old)) [
    | inl first ↦ in_front k is.0 (x ∷ is.1) first
    | inr later ↦ in_back k is.0 (x ∷ is.1) (inr later)
  ]
])

-- what was reached and what is new is reached
pub grown_has : (more old new : List ℕ) (k : ℕ) → IsGrown more old new → IsIn k old ⊎ IsIn k more → IsIn k new
grown_has [] old new k is has = elim has [ inl was ↦ subst (λ (l : List ℕ). IsIn k l) is was | inr never ↦ absurd never ]
grown_has (x ∷ more) old new k is has = grown_has more is.0 new k is.2 (elim has [
  | inl was ↦ inl (added_has x k old is.0 is.1 (inr was))
  | inr at ↦ elim at [ inl here ↦ inl (added_has x k old is.0 is.1 (inl here)) | inr later ↦ inr later ]
])

-- The tree after a put, on the array of the writes of nodes alone.
pub record IsNewTree (a : Area) (A C : Array) (key text : List ℕ) (taken : List ℕ) (level root : ℕ) : Type 0 where
  pub nodes : AreNodes a C level root
  pub ordered : IsOrdered level [] None (tree_at (cells_in a C) level root)
  pub pairs : IsGrown ((key, text) ∷ []) (tree_pairs a A) (pairs_in level (tree_at (cells_in a C) level root))
  pub blocks : IsGrown taken (tree_nodes a A) (nodes_in level (tree_at (cells_in a C) level root))
  pub past : 1 ≤ root
  pub below : root < a.blocks
  pub low : level ≤ 31

-- the region after it
pub record HasPutInto (a : Area) (key text : List ℕ) (A C : Array) : Type 0 where
  pub region : IsTreeRegion a C
  pub map_is : tree_map a C ≡ insert (tree_map a A) key text

-- root and level in eight bytes
root_word : (r l : ℕ) → r < 2 ^ 32 → word_at 0 (to_be_bytes w32 r ++ to_be_bytes w32 l) ≡ r
root_word r l low = ap (from_be_bytes w32) (take_at (to_be_bytes w32 r) (to_be_bytes w32 l) 4 refl) ∙ from_be_bytes-to_be_bytes_4 r low

level_word : (r l : ℕ) → l < 2 ^ 32 → word_at 4 (to_be_bytes w32 r ++ to_be_bytes w32 l) ≡ l
level_word r l low = grind (arith, from_be_bytes-to_be_bytes_4) steps 100000

some_none : (x : List ℕ) → ◌≡◌ {A = Option (List ℕ)} (Some x) None → ⊥
some_none x e = cc

-- a look-up that finds nothing
pub lacks_from : (key : List ℕ) (pairs : List (List ℕ × List ℕ)) → found_in key pairs ≡ None → AllByRecursion (λ (pair : List ℕ × List ℕ). key ≢ pair.0) pairs
lacks_from key [] none = tt
lacks_from key (pair ∷ pairs) none =
    elim (cases_Bool (eq_by_cmp (slice_cmp nat_cmp) key pair.0)) [
      | inl same ↦ absurd (some_none pair.1 (sym (ap (λ (t : Bool). cond t (Some pair.1) (found_in key pairs)) same) ∙ none))
      | inr other ↦ (
        λ e. both_ways (eq_by_cmp (slice_cmp nat_cmp) key pair.0) other (ties key pair.0 ∙ (bytes_eq-Decides key pair.0).1 e),
        lacks_from key pairs (sym (ap (λ (t : Bool). cond t (Some pair.1) (found_in key pairs)) other) ∙ none),
      )
    ]

-- what is taken was not reached
pub taken_apart : (a : Area) (A : Array) → IsTreeArea a → IsTreeRegion a A → (need : ℕ) (taken : List ℕ) → AreTaken a (bytes_in (map_mark a.blocks) (block_at A a.start)) need taken → IsApart (tree_nodes a A ++ taken)
taken_apart a A area region need taken are =
    let F = block_at A a.start in
    let first = bytes_in (map_mark a.blocks) F in
    apart_join (tree_nodes a A) taken region.once (up_apart 1 taken are.up) (λ j old is.
    let low : j < 8 * map_bytes a.blocks = let b = are.below j is in omega arith in
    let same : map_bit first j ≡ map_bit F j = ap (λ (x : ℕ). bit_at x (j % 8) == 1) (get_or-take (64 + map_bytes a.blocks) F (bit_place j) 0 (omega arith)) in
    both_ways (map_bit first j) (are.free j is) (same ∙ ((region.bits j low).1 old)))

module _ (a : Area) (area : IsTreeArea a) (A : Array) (region : IsTreeRegion a A) (key text : List ℕ) (lacks : AllByRecursion (λ (pair : List ℕ × List ℕ). key ≢ pair.0) (tree_pairs a A))
    (k : ℕ) (ks : List ℕ) (are : AreTaken a (bytes_in (map_mark a.blocks) (block_at A a.start)) (length (k ∷ ks)) (k ∷ ks))
    (root : Option (ℕ × ℕ)) (ws : List (ℕ × ℕ × List Cell)) (away : IsIn 0 (spots ws) → ⊥) where
  abbrev taken : List ℕ
  taken = k ∷ ks

  abbrev F : List ℕ
  F = block_at A a.start

  abbrev first : List ℕ
  first = bytes_in (map_mark a.blocks) F

  abbrev A0 : Array
  A0 = put A (first_access a first taken root)

  abbrev D : Array
  D = stored a A ws

  abbrev C : Array
  C = stored a A0 ws

  long : length F ≡ a.size
  long = let e : a.start + 0 ≡ a.start = omega arith in sym (ap (λ (b : ℕ). length (block_at A b)) e) ∙ region.shape 0 (let x = area.least in omega arith)

  room : 64 + map_bytes a.blocks ≤ a.size
  room = let x = area.most in let y = area.least_size in omega arith

  C_first : block_at C a.start ≡ merged (first_spans taken root) 0 F (first_bytes a first taken root)
  C_first =
      let e : a.start + 0 ≡ a.start = omega arith in
      subst (λ (b : ℕ). block_at C b ≡ block_at A0 b) e (stored_kept a A0 ws 0 away) ∙ written_block A (first_access a first taken root)

  -- the writes of nodes alone leave the same blocks after the first one
  same_after : (vs : List (ℕ × ℕ × List Cell)) (X Y : Array) (j : ℕ) → block_at X (a.start + j) ≡ block_at Y (a.start + j) → block_at (stored a X vs) (a.start + j) ≡ block_at (stored a Y vs) (a.start + j)
  same_after [] X Y j same = same
  same_after (w ∷ vs) X Y j same =
      let access = store_access (a.start + w.0) [] (node_bytes a.size w.1 w.2) in
      same_after vs (put X access) (put Y access) j (elim (cases_eq j w.0) [
        | inl here ↦
            (let e : a.start + j ≡ a.start + w.0 = ap (λ (n : ℕ). a.start + n) here in
            subst (λ (b : ℕ). block_at (put X access) b ≡ block_at (put Y access) b) (sym e)
            (written_block X access ∙ ap (λ (old : List ℕ). merged [] 0 old (node_bytes a.size w.1 w.2)) (sym (ap (block_at X) e) ∙ same ∙ ap (block_at Y) e) ∙ sym (written_block Y access)))
        | inr other ↦ other_block X access (a.start + j) (λ e. other (omega arith)) ∙ same ∙ sym (other_block Y access (a.start + j) (λ e. other (omega arith)))
      ])

  C_other : (j : ℕ) → 1 ≤ j → block_at C (a.start + j) ≡ block_at D (a.start + j)
  C_other j some = same_after ws A0 A j (other_block A (first_access a first taken root) (a.start + j) (λ e. absurd (omega arith)))

  module _ (level at : ℕ) (new : IsNewTree a A D key text taken level at) (inside : (j : ℕ) → IsIn j (nodes_in level (tree_at (cells_in a D) level at)) → 1 ≤ j)
      (root_is : root_of a C ≡ at) (level_is : level_of a C ≡ level) where
    kept : (j : ℕ) → IsIn j (nodes_in level (tree_at (cells_in a D) level at)) → block_at C (a.start + j) ≡ block_at D (a.start + j)
    kept j is = C_other j (inside j is)

    tree_kept : tree_at (cells_in a C) level at ≡ tree_at (cells_in a D) level at
    tree_kept = tree_same (cells_in a D) (cells_in a C) level at (λ j is. ap (used_cells a.size) (kept j is))

    nodes_C : AreNodes a C level at
    nodes_C = nodes_same a D C level at kept new.nodes

    some : (at == 0) ≡ false
    some = ne_eqb at 0 (let x = new.past in λ e. absurd (omega arith))

    nodes_are : tree_nodes a C ≡ nodes_in level (tree_at (cells_in a D) level at)
    nodes_are =
        (λ i. cond (root_is i == 0) [] (nodes_in (level_is i) (tree_at (cells_in a C) (level_is i) (root_is i))))
        ∙ ap (λ (t : Bool). cond t [] (nodes_in level (tree_at (cells_in a C) level at))) some ∙ ap (nodes_in level) tree_kept

    pairs_are : tree_pairs a C ≡ pairs_in level (tree_at (cells_in a D) level at)
    pairs_are =
        (λ i. cond (root_is i == 0) [] (pairs_in (level_is i) (tree_at (cells_in a C) (level_is i) (root_is i))))
        ∙ ap (λ (t : Bool). cond t [] (pairs_in level (tree_at (cells_in a C) level at))) some ∙ ap (pairs_in level) tree_kept

    grown : IsGrown taken (tree_nodes a A) (tree_nodes a C)
    grown = subst (λ (l : List ℕ). IsGrown taken (tree_nodes a A) l) (sym nodes_are) new.blocks

    once : IsApart (tree_nodes a C)
    once =
        subst IsApart (append-nil (tree_nodes a C))
        (grown_apart taken (tree_nodes a A) (tree_nodes a C) [] grown
        (subst (λ (l : List ℕ). IsApart (tree_nodes a A ++ l)) (sym (append-nil taken)) (taken_apart a A area region (length taken) taken are)))

    head_good : is_head a (bytes_in head_mark (block_at C a.start)) ≡ true
    head_good =
        let one : nat_lt (root_of a C) a.blocks ≡ true = ap (λ (n : ℕ). nat_lt n a.blocks) root_is ∙ grind (arith, nat_tests) in
        let two : nat_le (level_of a C) 31 ≡ true = ap (λ (n : ℕ). nat_le n 31) level_is ∙ grind (arith, nat_tests) in
        and_from _ _ (and_from _ _ one two) (or_left (not (root_of a C == 0)) _ (ap (λ (n : ℕ). not (n == 0)) root_is ∙ ap not some))

    region_C : IsTreeRegion a C
    region_C = record {
      shape = λ j inside. stored_shape a A0 ws (a.start + j) ∙ length-block_put A (first_access a first taken root) (a.start + j) ∙ region.shape j inside;
      head = head_good;
      zeros = ap (λ (b : List ℕ). list_all is_zero (bytes_in (record { off = 8; len = 56 }) b)) C_first ∙ ap (list_all is_zero) (zeros_after a F long room k ks are.up are.below root) ∙ region.zeros;
      nodes = inr (subst (λ (l : ℕ). AreNodes a C l (root_of a C)) (sym level_is) (subst (λ (r : ℕ). AreNodes a C level r) (sym root_is) nodes_C));
      ordered = inr (subst (λ (l : ℕ). IsOrdered l [] None (tree_at (cells_in a C) l (root_of a C))) (sym level_is)
          (subst (λ (r : ℕ). IsOrdered level [] None (tree_at (cells_in a C) level r)) (sym root_is) (subst (IsOrdered level [] None) (sym tree_kept) new.ordered)));
      once = once;
      bits = λ j low.
          let now = bits_after a F long room k ks are.up are.below root j low in
          let here : map_bit (block_at C a.start) j ≡ map_bit (merged (first_spans taken root) 0 F (first_bytes a first taken root)) j =
          ap (λ (b : List ℕ). map_bit b j) C_first in
          let was = region.bits j low in (
            λ set. grown_has taken (tree_nodes a A) (tree_nodes a C) j grown (elim (now.0 (sym here ∙ set)) [ inl is ↦ inr is | inr old ↦ inl (was.0 old) ]),
            λ is. here ∙ now.1 (elim (grown_in taken (tree_nodes a A) (tree_nodes a C) j grown is) [ inl old ↦ inr (was.1 old) | inr more ↦ inl more ]),
          );
    }

    map_C : tree_map a C ≡ insert (tree_map a A) key text
    unfolding tree_map
    map_C = map_put key text (tree_pairs a A) (tree_pairs a C) lacks (subst (λ (l : List (List ℕ × List ℕ)). IsGrown ((key, text) ∷ []) (tree_pairs a A) l) (sym pairs_are) new.pairs)

    -- The region after a put that took blocks.
    pub put_into : HasPutInto a key text A C
    put_into = record { region = region_C; map_is = map_C }

-- where the root stays, and where it is new
pub kept_root : (a : Area) (area : IsTreeArea a) (A : Array) (region : IsTreeRegion a A) (key text : List ℕ) (lacks : AllByRecursion (λ (pair : List ℕ × List ℕ). key ≢ pair.0) (tree_pairs a A))
    (k : ℕ) (ks : List ℕ) (are : AreTaken a (bytes_in (map_mark a.blocks) (block_at A a.start)) (length (k ∷ ks)) (k ∷ ks)) (ws : List (ℕ × ℕ × List Cell)) (away : IsIn 0 (spots ws) → ⊥)
    → IsNewTree a A (stored a A ws) key text (k ∷ ks) (level_of a A) (root_of a A) → ((j : ℕ) → IsIn j (nodes_in (level_of a A) (tree_at (cells_in a (stored a A ws)) (level_of a A) (root_of a A))) → 1 ≤ j)
    → HasPutInto a key text A (stored a (put A (first_access a (bytes_in (map_mark a.blocks) (block_at A a.start)) (k ∷ ks) None)) ws)
kept_root a area A region key text lacks k ks are ws away new inside =
    let first_is = C_first a area A region key text lacks k ks are None ws away in
    let head = ap (bytes_in head_mark) first_is ∙ head_kept a (block_at A a.start) (long a area A region key text lacks k ks are None ws away) (room a area A region key text lacks k ks are None ws away) k ks are.up are.below in
    put_into a area A region key text lacks k ks are None ws away (level_of a A) (root_of a A) new inside (ap (word_at 0) head) (ap (word_at 4) head)

pub new_root_put : (a : Area) (area : IsTreeArea a) (A : Array) (region : IsTreeRegion a A) (key text : List ℕ) (lacks : AllByRecursion (λ (pair : List ℕ × List ℕ). key ≢ pair.0) (tree_pairs a A))
    (k : ℕ) (ks : List ℕ) (are : AreTaken a (bytes_in (map_mark a.blocks) (block_at A a.start)) (length (k ∷ ks)) (k ∷ ks)) (ws : List (ℕ × ℕ × List Cell)) (away : IsIn 0 (spots ws) → ⊥) (r l : ℕ)
    → IsNewTree a A (stored a A ws) key text (k ∷ ks) l r → ((j : ℕ) → IsIn j (nodes_in l (tree_at (cells_in a (stored a A ws)) l r)) → 1 ≤ j) → a.blocks ≤ 2 ^ 32
    → HasPutInto a key text A (stored a (put A (first_access a (bytes_in (map_mark a.blocks) (block_at A a.start)) (k ∷ ks) (Some (r, l)))) ws)
new_root_put a area A region key text lacks k ks are ws away r l new inside most =
    let first_is = C_first a area A region key text lacks k ks are (Some (r, l)) ws away in
    let head = ap (bytes_in head_mark) first_is ∙ head_new a (block_at A a.start) (long a area A region key text lacks k ks are (Some (r, l)) ws away) (room a area A region key text lacks k ks are (Some (r, l)) ws away) k ks are.up are.below r l in
    put_into a area A region key text lacks k ks are (Some (r, l)) ws away l r new inside (ap (word_at 0) head ∙ root_word r l (omega arith)) (ap (word_at 4) head ∙ level_word r l (omega arith))
