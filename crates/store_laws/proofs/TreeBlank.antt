-- A region of zeros is a well-formed tree region, and its map is empty.
use Rattle.store_laws.proofs.{Words.{IsBlank, ◌≡◌, ◌∙◌, sym, ap, subst, ℕ, ◌+◌, ◌<◌, ◌≤◌, ◌==◌, Bool, true, false, cond, List, [], length, replicate, arith, inl, eq-eqb, list_all, from_be_bytes, w32, empty, from_entries, both_ways, nat_tests, length-replicate, Area, Array, is_zero, word_at, map_bit, IsIn, block_at, bytes_in, head_mark, is_head, IsApart, nodes_in, pairs_in, tree_at, IsTreeArea, IsTreeRegion, cells_in, level_of, root_of, tree_map, tree_nodes, piece_zero}, Zeros.no_bit_in_zeros}

module _ (a : Area) (A : Array) (area : IsTreeArea a) (blank : IsBlank a A) where
  blank_first : block_at A a.start ≡ replicate a.size 0
  blank_first = let e : a.start + 0 ≡ a.start = omega arith in ap (block_at A) (sym e) ∙ blank 0 (let least = area.least in omega arith)

  blank_head : bytes_in head_mark (block_at A a.start) ≡ replicate 8 0
  blank_head = ap (bytes_in head_mark) blank_first ∙ piece_zero head_mark a.size (let least = area.least_size in omega arith)

  word_zero : (at : ℕ) → at + 4 ≤ 8 → word_at at (replicate 8 0) ≡ 0
  word_zero at low = ap (from_be_bytes w32) (piece_zero (record { off = at; len = 4 }) 8 low)

  no_root : root_of a A ≡ 0
  no_root = ap (word_at 0) blank_head ∙ word_zero 0 (omega arith)

  none : {X : Type 0} (x : List X) → cond (root_of a A == 0) [] x ≡ []
  none x = ap (λ (t : Bool). cond t [] x) (eq-eqb (root_of a A) 0 no_root)

  no_nodes : tree_nodes a A ≡ []
  no_nodes = none (nodes_in (level_of a A) (tree_at (cells_in a A) (level_of a A) (root_of a A)))

  head_of_zeros : is_head a (replicate 8 0) ≡ true
  head_of_zeros = let some : 0 < a.blocks = (let least = area.least in omega arith) in grind (arith, nat_tests, word_zero)

  no_bit : (k : ℕ) → map_bit (block_at A a.start) k ≡ false
  no_bit k = ap (λ (first : List ℕ). map_bit first k) blank_first ∙ no_bit_in_zeros a.size k

  pub blank_region : IsTreeRegion a A
  blank_region = record {
    shape = λ k below. ap length (blank k below) ∙ length-replicate {A = ℕ} a.size 0;
    head = ap (is_head a) blank_head ∙ head_of_zeros;
    zeros =
        ap (λ (first : List ℕ). list_all is_zero (bytes_in (record { off = 8; len = 56 }) first)) blank_first
        ∙ ap (list_all is_zero) (piece_zero (record { off = 8; len = 56 }) a.size (let least = area.least_size in omega arith));
    nodes = inl no_root;
    ordered = inl no_root;
    once = subst IsApart (sym no_nodes) tt;
    bits = λ k below. (λ set. absurd (both_ways (map_bit (block_at A a.start) k) (no_bit k) set), λ is. absurd (subst (IsIn k) no_nodes is));
  }

  pub blank_map : tree_map a A ≡ empty
  unfolding tree_map
  blank_map = ap from_entries (none (pairs_in (level_of a A) (tree_at (cells_in a A) (level_of a A) (root_of a A))))
