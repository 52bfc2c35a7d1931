-- A tree region depends on the blocks of its area alone.
use Rattle.iso_tree.proofs.{Words.{◌≡◌, ◌≢◌, ◌⊎◌, ◌∙◌, sym, ap, subst, ℕ, ◌+◌, ◌==◌, Bool, true, cond, List, [], length, None, arith, inl, inr, eq-eqb, list_all, from_entries, cases_eq, Area, Array, is_zero, word_at, map_bit, IsIn, block_at, bytes_in, head_mark, is_head, used_cells, IsApart, IsOrdered, nodes_in, pairs_in, tree_at, AreNodes, IsTreeArea, IsTreeRegion, cells_in, level_of, root_of, tree_map, tree_nodes, tree_pairs, in_area, same_block, same_first}, Again.nodes_inside, Blocks.tree_same, Facts.head_parts, Stored.nodes_same}

-- a choice by a number that is 0, where the other case is the same
same_choice : {X : Type 0} (n : ℕ) (z x y : X) → (n ≢ 0 → x ≡ y) → cond (n == 0) z x ≡ cond (n == 0) z y
same_choice {X = X} n z x y same = elim (cases_eq n 0) [
  | inl none ↦ ap (λ (t : Bool). cond t z x) (eq-eqb n 0 none) ∙ sym (ap (λ (t : Bool). cond t z y) (eq-eqb n 0 none))
  | inr some ↦ ap (λ (r : X). cond (n == 0) z r) (same some)
]

module _ (a : Area) (A B : Array) (area : IsTreeArea a) (same : (b : ℕ) → in_area a b ≡ true → block_at B b ≡ block_at A b) (region : IsTreeRegion a A) where
  abbrev root : ℕ
  root = root_of a A

  abbrev level : ℕ
  level = level_of a A

  first_kept : block_at B a.start ≡ block_at A a.start
  first_kept = same_first a A B same (let least = area.least in omega arith)

  same_root : root_of a B ≡ root
  same_root = ap (λ (first : List ℕ). word_at 0 (bytes_in head_mark first)) first_kept

  same_level : level_of a B ≡ level
  same_level = ap (λ (first : List ℕ). word_at 4 (bytes_in head_mark first)) first_kept

  nodes_are : root ≢ 0 → AreNodes a A level root
  nodes_are some = elim region.nodes [ inl empty ↦ absurd (some empty) | inr are ↦ are ]

  -- each block of the tree is one of the area
  kept : root ≢ 0 → (k : ℕ) → IsIn k (nodes_in level (tree_at (cells_in a A) level root)) → block_at B (a.start + k) ≡ block_at A (a.start + k)
  kept some k is =
      same_block a A B same k (nodes_inside a A k level root (nodes_are some) (omega (arith, some)) ((head_parts a (bytes_in head_mark (block_at A a.start)) region.head).root) is).1

  same_tree : root ≢ 0 → tree_at (cells_in a B) level root ≡ tree_at (cells_in a A) level root
  same_tree some = tree_same (cells_in a A) (cells_in a B) level root (λ k is. ap (used_cells a.size) (kept some k is))

  same_nodes : tree_nodes a B ≡ tree_nodes a A
  same_nodes =
      (λ i. cond (same_root i == 0) [] (nodes_in (same_level i) (tree_at (cells_in a B) (same_level i) (same_root i))))
      ∙ same_choice root [] (nodes_in level (tree_at (cells_in a B) level root)) (nodes_in level (tree_at (cells_in a A) level root)) (λ some. ap (nodes_in level) (same_tree some))

  same_pairs : tree_pairs a B ≡ tree_pairs a A
  same_pairs =
      (λ i. cond (same_root i == 0) [] (pairs_in (same_level i) (tree_at (cells_in a B) (same_level i) (same_root i))))
      ∙ same_choice root [] (pairs_in level (tree_at (cells_in a B) level root)) (pairs_in level (tree_at (cells_in a A) level root)) (λ some. ap (pairs_in level) (same_tree some))

  nodes_new : (root_of a B ≡ 0) ⊎ AreNodes a B (level_of a B) (root_of a B)
  nodes_new = elim (cases_eq root 0) [
    | inl empty ↦ inl (same_root ∙ empty)
    | inr some ↦ inr (subst (λ (l : ℕ). AreNodes a B l (root_of a B)) (sym same_level) (subst (λ (r : ℕ). AreNodes a B level r) (sym same_root)
        (nodes_same a A B level root (kept some) (nodes_are some))))
  ]

  ordered_new : (root_of a B ≡ 0) ⊎ IsOrdered (level_of a B) [] None (tree_at (cells_in a B) (level_of a B) (root_of a B))
  ordered_new = elim (cases_eq root 0) [
    | inl empty ↦ inl (same_root ∙ empty)
    | inr some ↦ inr (subst (λ (l : ℕ). IsOrdered l [] None (tree_at (cells_in a B) l (root_of a B))) (sym same_level)
        (subst (λ (r : ℕ). IsOrdered level [] None (tree_at (cells_in a B) level r)) (sym same_root)
        (subst (IsOrdered level [] None) (sym (same_tree some)) (elim region.ordered [ inl empty ↦ absurd (some empty) | inr is ↦ is ]))))
  ]

  pub region_new : IsTreeRegion a B
  region_new = record {
    shape = λ k below. ap length (same_block a A B same k below) ∙ region.shape k below;
    head = ap (λ (first : List ℕ). is_head a (bytes_in head_mark first)) first_kept ∙ region.head;
    zeros = ap (λ (first : List ℕ). list_all is_zero (bytes_in (record { off = 8; len = 56 }) first)) first_kept ∙ region.zeros;
    nodes = nodes_new;
    ordered = ordered_new;
    once = subst IsApart (sym same_nodes) region.once;
    bits = λ k below.
        let was = region.bits k below in
        let bit : map_bit (block_at B a.start) k ≡ map_bit (block_at A a.start) k = ap (λ (first : List ℕ). map_bit first k) first_kept in
        (λ set. subst (IsIn k) (sym same_nodes) (was.0 (sym bit ∙ set)), λ is. bit ∙ was.1 (subst (IsIn k) same_nodes is));
  }

  pub map_new : tree_map a B ≡ tree_map a A
  unfolding tree_map
  map_new = ap from_entries same_pairs
