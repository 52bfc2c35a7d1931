-- A removal takes the key out of the map of the region.
use Rattle.iso_tree.proofs.{Words.{◌≡◌, ◌≢◌, ◌∙◌, sym, refl, ap, subst, ℕ, suc, ◌+◌, ◌≤◌, ◌==◌, Bool, true, false, not, cond, IsTrue, List, [], ◌∷◌, ◌++◌, length, Option, Some, None, arith, inl, inr, ne_eqb, AllByRecursion, nat_cmp, eq_by_cmp, bytes_eq, slice_cmp, nat_list_cmp_total, nat_list_eq_equiv, from_entries, get, remove, get-from_entries, get-remove, same_map, slice_cmp-IsAntisymmetric, nat_cmp-IsAntisymmetric, cases_Bool, cases_eq, bytes_eq-Decides, Area, or_else, Array, put, IsIn, Pairs, block_at, bytes_in, store_access, cell_count, keys_mark, is_part, text_of, word_at, length-block_put, written_block, other_block, IsBlock, FitCells, Cell, is_node, used_cells, node_bytes, head_mark, tree_at, pairs_in, nodes_in, IsApart, in_range, Rise, IsOrdered, without_key, cells_in, root_of, level_of, IsNode, AreNodes, IsTreeRegion, tree_pairs, tree_nodes, found_in, find_append, ties, laid_whole, ◌<◌, option_map, own, Program, then_do, accesses_of, answer_of, value_mark, accesses_then, answer_then, own_reads, own_append, cell_of, Descent, AtLeaf, descend}, Bytes.length-node_bytes, Edits.{leaf_of, leaf_pairs, IsSwapped, IsEdited, edit_is}, Fits.{nodes_after, one_level, leaf_is_node}, Gets.{descend_reads, leaf_finds}, Leaves.{found_leaf, leaf_stays, EndsAtLeaf, ends_at_leaf}, Order.not_before_empty}

-- A leaf that is written, whole or in part, and the cells that it has then.
pub record IsLeafEdit (a : Area) (A B : Array) (leaf : ℕ) (cs : List Cell) : Type 0 where
  pub others : (b : ℕ) → b ≢ a.start + leaf → block_at B b ≡ block_at A b
  pub node : IsNode a 0 (block_at B (a.start + leaf))
  pub here : used_cells a.size (block_at B (a.start + leaf)) ≡ cs
  pub long : length (block_at B (a.start + leaf)) ≡ a.size

-- a leaf that is written whole
pub leaf_written : (a : Area) (A : Array) (leaf : ℕ) (cs : List Cell) → IsBlock a.size → length (block_at A (a.start + leaf)) ≡ a.size → FitCells cs → length cs ≤ cell_count a.size
    → AllByRecursion (λ (c : Cell). is_part 32 c.1 ≡ true) cs → Rattle.iso_tree.proofs.Passes.Strict cs → IsLeafEdit a A (put A (store_access (a.start + leaf) [] (node_bytes a.size 0 cs))) leaf cs
leaf_written a A leaf cs sized long fit few parts strict =
    let access = store_access (a.start + leaf) [] (node_bytes a.size 0 cs) in
    let here : block_at (put A access) (a.start + leaf) ≡ node_bytes a.size 0 cs =
    written_block A access ∙ laid_whole (block_at A (a.start + leaf)) (node_bytes a.size 0 cs) (length-node_bytes a.size 0 cs fit few sized.whole ∙ sym long) in
    record {
      others = λ b other. other_block A access b other;
      node = subst (IsNode a 0) (sym here) (leaf_is_node a cs fit few strict parts);
      here = ap (used_cells a.size) here ∙ Rattle.iso_tree.proofs.Bytes.cells_are a.size 0 cs fit few;
      long = length-block_put A access (a.start + leaf) ∙ long;
    }

-- The region and its pairs after the write of a leaf that keeps within its range.
module _ (a : Area) (A B : Array) (key : List ℕ) (cs : List Cell) (region : IsTreeRegion a A) (some : root_of a A ≢ 0) where
  abbrev pub leaf : ℕ
  leaf = leaf_of (cells_in a A) key (level_of a A) (root_of a A)

  nodes_A : AreNodes a A (level_of a A) (root_of a A)
  nodes_A = elim region.nodes [ inl empty ↦ absurd (some empty) | inr is ↦ is ]

  order_A : IsOrdered (level_of a A) [] None (tree_at (cells_in a A) (level_of a A) (root_of a A))
  order_A = elim region.ordered [ inl empty ↦ absurd (some empty) | inr is ↦ is ]

  some_test : (root_of a A == 0) ≡ false
  some_test = ne_eqb (root_of a A) 0 some

  nodes_are : tree_nodes a A ≡ nodes_in (level_of a A) (tree_at (cells_in a A) (level_of a A) (root_of a A))
  nodes_are = ap (λ (t : Bool). cond t [] (nodes_in (level_of a A) (tree_at (cells_in a A) (level_of a A) (root_of a A)))) some_test

  apart_A : IsApart (nodes_in (level_of a A) (tree_at (cells_in a A) (level_of a A) (root_of a A)))
  apart_A = subst IsApart nodes_are region.once

  module _ (past : 1 ≤ leaf) (node : IsNode a 0 (block_at A (a.start + leaf))) (edit : IsLeafEdit a A B leaf cs)
      (keeps : (low : List ℕ) (high : Option (List ℕ)) → in_range low high key ≡ true → Rise low high (cells_in a A leaf) → Rise low high cs) where
    block_kept : (k : ℕ) → k ≢ leaf → block_at B (a.start + k) ≡ block_at A (a.start + k)
    block_kept k other = edit.others (a.start + k) (λ e. other (omega arith))

    kept : (k : ℕ) → k ≢ leaf → cells_in a B k ≡ cells_in a A k
    kept k other = ap (used_cells a.size) (block_kept k other)

    here : cells_in a B leaf ≡ cs
    here = edit.here

    first_kept : block_at B a.start ≡ block_at A a.start
    first_kept = edit.others a.start (λ e. absurd (omega arith))

    leaf_node : IsNode a 0 (block_at B (a.start + leaf))
    leaf_node = edit.node

    stays : (k l : ℕ) → IsNode a l (block_at A (a.start + k)) → IsNode a l (block_at B (a.start + k))
    stays k l is = elim (cases_eq k leaf) [
      | inr other ↦ subst (IsNode a l) (sym (block_kept k other)) is
      | inl same ↦
          (let level : l ≡ 0 = one_level a.size l 0 (bytes_in (keys_mark a.size) (block_at A (a.start + leaf))) (subst (λ (j : ℕ). is_node a.size l (bytes_in (keys_mark a.size) (block_at A (a.start + j))) ≡ true) same is.keys) node.keys in
          subst (λ (m : ℕ). IsNode a m (block_at B (a.start + k))) (sym level) (subst (λ (j : ℕ). IsNode a 0 (block_at B (a.start + j))) (sym same) leaf_node))
    ]

    inner_kept : (k l : ℕ) → IsNode a (suc l) (block_at A (a.start + k)) → cells_in a B k ≡ cells_in a A k
    inner_kept k l is = grind (arith, one_level) steps 100000

    edited : IsEdited (level_of a A) (cells_in a A) (cells_in a B) (root_of a A) (tree_at (cells_in a A) (level_of a A) (root_of a A)) key leaf
    edited = edit_is (cells_in a A) (cells_in a B) key (level_of a A) (root_of a A) [] None order_A apart_A kept

    root_kept : root_of a B ≡ root_of a A
    root_kept = ap (λ (b : List ℕ). word_at 0 (bytes_in head_mark b)) first_kept

    level_kept : level_of a B ≡ level_of a A
    level_kept = ap (λ (b : List ℕ). word_at 4 (bytes_in head_mark b)) first_kept

    order_at : IsOrdered (level_of a A) [] None (tree_at (cells_in a B) (level_of a A) (root_of a A))
    order_at = edited.ordered [] None (ap not (not_before_empty key)) order_A (λ lo hi inside is. subst (Rise lo hi) (sym here) (keeps lo hi inside is))

    order_B : IsOrdered (level_of a B) [] None (tree_at (cells_in a B) (level_of a B) (root_of a B))
    order_B = grind (arith, level_kept, root_kept, order_at) steps 100000

    nodes_B : AreNodes a B (level_of a B) (root_of a B)
    nodes_B = subst (λ (l : ℕ). AreNodes a B l (root_of a B)) (sym level_kept) (subst (λ (r : ℕ). AreNodes a B (level_of a A) r) (sym root_kept) (nodes_after a A B stays inner_kept (level_of a A) (root_of a A) nodes_A))

    tree_nodes_kept : tree_nodes a B ≡ tree_nodes a A
    tree_nodes_kept =
        (λ i. cond (root_kept i == 0) [] (nodes_in (level_kept i) (tree_at (cells_in a B) (level_kept i) (root_kept i))))
        ∙ ap (λ (l : List ℕ). cond (root_of a A == 0) [] l) (sym edited.nodes)

    -- the region is well formed
    pub edit_region : IsTreeRegion a B
    edit_region = record {
      shape = λ k inside. elim (cases_eq k leaf) [
        | inl same ↦ subst (λ (j : ℕ). length (block_at B (a.start + j)) ≡ a.size) (sym same) edit.long
        | inr other ↦ ap length (block_kept k other) ∙ region.shape k inside
      ];
      head = subst (λ (b : List ℕ). IsTrue (Rattle.store_model.specs.TreeNodes.is_head a (bytes_in head_mark b))) (sym first_kept) region.head;
      zeros = subst (λ (b : List ℕ). IsTrue (Rattle.std.specs.List.list_all Rattle.store_model.specs.Cells.is_zero (bytes_in (record { off = 8; len = 56 }) b))) (sym first_kept) region.zeros;
      nodes = inr nodes_B;
      ordered = inr order_B;
      once = subst IsApart (sym tree_nodes_kept) region.once;
      bits = λ k inside.
          let was = region.bits k inside in (
            λ set. subst (λ (l : List ℕ). IsIn k l) (sym tree_nodes_kept) (was.0 (subst (λ (b : List ℕ). IsTrue (Rattle.store_model.specs.FreeMap.map_bit b k)) first_kept set)),
            λ is. subst (λ (b : List ℕ). IsTrue (Rattle.store_model.specs.FreeMap.map_bit b k)) (sym first_kept) (was.1 (subst (λ (l : List ℕ). IsIn k l) tree_nodes_kept is)),
          );
    }

    pairs_old : tree_pairs a A ≡ pairs_in (level_of a A) (tree_at (cells_in a A) (level_of a A) (root_of a A))
    pairs_old = ap (λ (t : Bool). cond t [] (pairs_in (level_of a A) (tree_at (cells_in a A) (level_of a A) (root_of a A)))) some_test

    pairs_new : tree_pairs a B ≡ pairs_in (level_of a A) (tree_at (cells_in a B) (level_of a A) (root_of a A))
    pairs_new = grind (arith, root_kept, level_kept, some_test) steps 100000

    -- its pairs are the old ones, with those of the leaf changed
    pub edit_pairs : IsSwapped (leaf_pairs (cells_in a A leaf)) (leaf_pairs cs) (tree_pairs a A) (tree_pairs a B)
    edit_pairs = subst (λ (l : List (List ℕ × List ℕ)). IsSwapped (leaf_pairs (cells_in a A leaf)) (leaf_pairs cs) l (tree_pairs a B)) (sym pairs_old)
        (subst (λ (l : List (List ℕ × List ℕ)). IsSwapped (leaf_pairs (cells_in a A leaf)) (leaf_pairs cs) (pairs_in (level_of a A) (tree_at (cells_in a A) (level_of a A) (root_of a A))) l) (sym pairs_new)
        (subst (λ (c : List Cell). IsSwapped (leaf_pairs (cells_in a A leaf)) (leaf_pairs c) (pairs_in (level_of a A) (tree_at (cells_in a A) (level_of a A) (root_of a A))) (pairs_in (level_of a A) (tree_at (cells_in a B) (level_of a A) (root_of a A)))) here edited.pairs))

    -- and the key is in the leaf or nowhere
    pub edit_found : found_in key (tree_pairs a B) ≡ found_in key (leaf_pairs cs)
    edit_found = grind (arith, pairs_new, found_leaf, order_at, leaf_stays, order_A, apart_A) steps 100000

-- Look-ups after pairs were swapped.
pub swapped_found : (q : List ℕ) (ms ms' old new : List (List ℕ × List ℕ)) → IsSwapped ms ms' old new → found_in q ms' ≡ found_in q ms → found_in q new ≡ found_in q old
swapped_found q ms ms' old new is same =
    let ys = is.1 in
    ap (found_in q) is.3 ∙ find_append q is.0 (ms' ++ ys) ∙ ap (or_else (found_in q is.0)) (find_append q ms' ys ∙ ap (λ o. or_else o (found_in q ys)) same ∙ sym (find_append q ms ys))
    ∙ sym (find_append q is.0 (ms ++ ys)) ∙ ap (found_in q) (sym is.2)

-- a leaf without a key
without_found : (key q : List ℕ) (cs : List Cell) → bytes_eq q key ≡ false → found_in q (leaf_pairs (without_key key cs)) ≡ found_in q (leaf_pairs cs)
without_found key q [] other = refl
without_found key q (c ∷ cs) other =
    elim (cases_Bool (bytes_eq c.0 key)) [
      | inl is ↦
          (let same : c.0 ≡ key = (bytes_eq-Decides c.0 key).0 is in
          ap (λ (t : Bool). found_in q (leaf_pairs (cond (not t) (c ∷ without_key key cs) (without_key key cs)))) is
          ∙ without_found key q cs other
          ∙ sym (ap (λ (t : Bool). cond t (Some (text_of c.1)) (found_in q (leaf_pairs cs))) (ties q c.0 ∙ ap (bytes_eq q) same ∙ other)))
      | inr no_it ↦
          ap (λ (t : Bool). found_in q (leaf_pairs (cond (not t) (c ∷ without_key key cs) (without_key key cs)))) no_it
          ∙ ap (λ (o : Option (List ℕ)). cond (eq_by_cmp (slice_cmp nat_cmp) q c.0) (Some (text_of c.1)) o) (without_found key q cs other)
    ]

without_none : (key : List ℕ) (cs : List Cell) → found_in key (leaf_pairs (without_key key cs)) ≡ None
without_none key [] = refl
without_none key (c ∷ cs) =
    elim (cases_Bool (bytes_eq c.0 key)) [
      | inl is ↦ ap (λ (t : Bool). found_in key (leaf_pairs (cond (not t) (c ∷ without_key key cs) (without_key key cs)))) is ∙ without_none key cs
      | inr no_it ↦
          (let miss : eq_by_cmp (slice_cmp nat_cmp) key c.0 ≡ false = ties key c.0 ∙ nat_list_eq_equiv.symm key c.0 ∙ no_it in
          ap (λ (t : Bool). found_in key (leaf_pairs (cond (not t) (c ∷ without_key key cs) (without_key key cs)))) no_it
          ∙ ap (λ (t : Bool). cond t (Some (text_of c.1)) (found_in key (leaf_pairs (without_key key cs)))) miss ∙ without_none key cs)
    ]

-- The map without a key.
pub map_without : (key : List ℕ) (cs : List Cell) (old new : List (List ℕ × List ℕ)) → IsSwapped (leaf_pairs cs) (leaf_pairs (without_key key cs)) old new → found_in key new ≡ found_in key (leaf_pairs (without_key key cs))
    → ◌≡◌ {A = Pairs} (from_entries new) (remove (from_entries old) key)
map_without key cs old new is found =
    let m : Pairs = from_entries old in
    same_map nat_list_cmp_total (slice_cmp-IsAntisymmetric nat_cmp-IsAntisymmetric) (from_entries new) (remove (from_entries old) key) (λ q.
    get-from_entries nat_list_cmp_total new q
    ∙ elim (cases_Bool (bytes_eq q key)) [
      | inl same ↦
          (let e : q ≡ key = (bytes_eq-Decides q key).0 same in
          ap (λ (k : List ℕ). found_in k new) e ∙ found ∙ without_none key cs
          ∙ sym (ap (λ (t : Bool). cond t None (get m q)) (ties q key ∙ same)))
      | inr other ↦
          swapped_found q (leaf_pairs cs) (leaf_pairs (without_key key cs)) old new is (without_found key q cs other)
          ∙ sym (get-from_entries nat_list_cmp_total old q)
          ∙ sym (ap (λ (t : Bool). cond t None (get m q)) (ties q key ∙ other))
    ]
    ∙ sym (get-remove nat_list_cmp_total (from_entries old) key q))

-- a key that is not there
pub map_missing : (key : List ℕ) (pairs : List (List ℕ × List ℕ)) → found_in key pairs ≡ None → ◌≡◌ {A = Pairs} (from_entries pairs) (remove (from_entries pairs) key)
map_missing key pairs none =
    let m : Pairs = from_entries pairs in
    same_map nat_list_cmp_total (slice_cmp-IsAntisymmetric nat_cmp-IsAntisymmetric) (from_entries pairs) (remove (from_entries pairs) key) (λ q.
    elim (cases_Bool (bytes_eq q key)) [
      | inl same ↦
          (let e : q ≡ key = (bytes_eq-Decides q key).0 same in
          get-from_entries nat_list_cmp_total pairs q ∙ ap (λ (k : List ℕ). found_in k pairs) e ∙ none
          ∙ sym (ap (λ (t : Bool). cond t None (get m q)) (ties q key ∙ same)))
      | inr other ↦ sym (ap (λ (t : Bool). cond t None (get m q)) (ties q key ∙ other))
    ]
    ∙ sym (get-remove nat_list_cmp_total (from_entries pairs) key q))

-- A call on a well-formed region whose tree is not empty: where its descent ends, and what comes after it.
module _ (a : Area) (key : List ℕ) (A : Array) (region : IsTreeRegion a A) (below : root_of a A < a.blocks) (some : root_of a A ≢ 0) where
  abbrev root : ℕ
  root = root_of a A

  abbrev level : ℕ
  level = level_of a A

  pub nodes_of : AreNodes a A level root
  nodes_of = elim region.nodes [ inl empty ↦ absurd (some empty) | inr is ↦ is ]

  pub order_of : IsOrdered level [] None (tree_at (cells_in a A) level root)
  order_of = elim region.ordered [ inl empty ↦ absurd (some empty) | inr is ↦ is ]

  pub ends_of : EndsAtLeaf a A key level root []
  ends_of = ends_at_leaf a A key level root [] [] None nodes_of order_of (omega arith) below

  abbrev pub at : ℕ
  at = leaf_of (cells_in a A) key level root

  abbrev pub keys : List ℕ
  keys = bytes_in (keys_mark a.size) (block_at A (a.start + at))

  reads_own : own A (accesses_of (descend a key false level root []) A) ≡ A
  reads_own = own_reads A (accesses_of (descend a key false level root []) A) (descend_reads a key false level root [] A)

  pub answer_at : {R : Type 0} (f : Descent → Program R) → answer_of (then_do (descend a key false level root []) f) A ≡ answer_of (f (AtLeaf ends_of.passed at keys ends_of.value)) A
  answer_at f = answer_then (descend a key false level root []) f A ∙ (λ i. answer_of (f (ends_of.ends i)) (reads_own i))

  pub own_at : {R : Type 0} (f : Descent → Program R) → own A (accesses_of (then_do (descend a key false level root []) f) A) ≡ own A (accesses_of (f (AtLeaf ends_of.passed at keys ends_of.value)) A)
  own_at f =
      ap (own A) (accesses_then (descend a key false level root []) f A)
      ∙ own_append A (accesses_of (descend a key false level root []) A) _
      ∙ (λ i. own (reads_own i) (accesses_of (f (ends_of.ends i)) (reads_own i)))

  pub found_of : found_in key (tree_pairs a A) ≡ option_map (λ j. text_of (bytes_in (value_mark a.size j) (block_at A (a.start + at)))) (cell_of key keys)
  found_of = grind (arith, found_leaf, order_of, leaf_finds) steps 100000
