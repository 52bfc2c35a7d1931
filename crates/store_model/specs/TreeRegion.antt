-- The region of the tree store: when it is well formed, and the map that it holds.
use Rattle.std.specs.{Prelude.{◌≡◌, ◌⊎◌, ◌↔◌, ℕ, zero, suc, ◌+◌, ◌-◌, ◌*◌, ◌<◌, ◌≤◌, Bool, ◌&&◌, ◌==◌, not, cond, IsTrue, List, [], take, length, None}, List.{list_all, AllByRecursion, filter}, FinMap.{from_entries, entries}}
use Rattle.store_model.specs.{declared.stores.Area.Area, Stores.bytes_in, Cells.{cell_count, keys_mark, value_mark, word_at, is_zero, is_part}, FreeMap.{map_bytes, map_bit}, HashRegion.{Pairs, IsIn}, TreeNodes.{before, Cell, count_of, is_node, child_of, is_child, used_cells, head_mark, is_head}, Trees.{tree_at, pairs_in, nodes_in, IsApart, IsOrdered}}
use Rattle.iso_model.specs.{Array.Array, Geometry.is_block_size, Premises.block_at}

-- where a tree store may be
pub record IsTreeArea (a : Area) : Type 0 where
  pub block_size : IsTrue (is_block_size a.size)
  pub least_size : 256 ≤ a.size
  pub least : 2 ≤ a.blocks
  pub most : a.blocks ≤ 8 * (a.size - 64)

-- the cells of each block
abbrev pub cells_in : Area → Array → ℕ → List Cell
cells_in a A k = used_cells a.size (block_at A (a.start + k))

-- the root, 0 for none, and its level
abbrev pub root_of : Area → Array → ℕ
root_of a A = word_at 0 (bytes_in head_mark (block_at A a.start))

abbrev pub level_of : Area → Array → ℕ
level_of a A = word_at 4 (bytes_in head_mark (block_at A a.start))

-- Whether a value part is that of a cell of this level: a value in a leaf, the number of a block in an inner node.
abbrev pub is_part_at : Area → (level : ℕ) → List ℕ → Bool
is_part_at a zero part = is_part 32 part
is_part_at a (suc level) part = is_child a.blocks part

-- a block that is a node of a level, with all its value parts: those of cells that are not used are zero
pub record IsNode (a : Area) (level : ℕ) (block : List ℕ) : Type 0 where
  pub keys : IsTrue (is_node a.size level (bytes_in (keys_mark a.size) block))
  pub used : (i : ℕ) → i < count_of (bytes_in (keys_mark a.size) block) → IsTrue (is_part_at a level (bytes_in (value_mark a.size i) block))
  pub unused : (i : ℕ) → count_of (bytes_in (keys_mark a.size) block) ≤ i → i < cell_count a.size → IsTrue (list_all is_zero (bytes_in (value_mark a.size i) block))

-- each block that is reached from this one is a node of its level
abbrev pub AreNodes : Area → Array → (level block : ℕ) → Type 0
AreNodes a A zero block = IsNode a 0 (block_at A (a.start + block))
AreNodes a A (suc level) block =
    IsNode a (suc level) (block_at A (a.start + block)) × AllByRecursion (λ c. AreNodes a A level (child_of c.1)) (cells_in a A block)

-- the pairs of the region's tree, and the blocks that are reached
abbrev pub tree_pairs : Area → Array → List (List ℕ × List ℕ)
tree_pairs a A = cond (root_of a A == 0) [] (pairs_in (level_of a A) (tree_at (cells_in a A) (level_of a A) (root_of a A)))

abbrev pub tree_nodes : Area → Array → List ℕ
tree_nodes a A = cond (root_of a A == 0) [] (nodes_in (level_of a A) (tree_at (cells_in a A) (level_of a A) (root_of a A)))

-- A tree region that is well formed: the head and all nodes reached are, no node is reached twice, the bits of the map are exactly
-- the nodes reached, and all keys lie in the ranges of their ancestors.
pub record IsTreeRegion (a : Area) (A : Array) : Type 0 where
  pub shape : (k : ℕ) → k < a.blocks → length (block_at A (a.start + k)) ≡ a.size
  pub head : IsTrue (is_head a (bytes_in head_mark (block_at A a.start)))
  pub zeros : IsTrue (list_all is_zero (bytes_in (record { off = 8; len = 56 }) (block_at A a.start)))
  pub nodes : (root_of a A ≡ 0) ⊎ AreNodes a A (level_of a A) (root_of a A)
  pub ordered : (root_of a A ≡ 0) ⊎ IsOrdered (level_of a A) [] None (tree_at (cells_in a A) (level_of a A) (root_of a A))
  pub once : IsApart (tree_nodes a A)
  pub bits : (k : ℕ) → k < 8 * map_bytes a.blocks → IsTrue (map_bit (block_at A a.start) k) ↔ IsIn k (tree_nodes a A)

-- the map of the region: the pairs of all leaves that are reached
unfoldable pub tree_map : Area → Array → Pairs
tree_map a A = from_entries (tree_pairs a A)

-- whether a key is in the range from one to another
abbrev pub is_within : (from to key : List ℕ) → Bool
is_within from to key = not (before key from) && before key to

-- a scan on the map: the first pairs of the range
abbrev pub scan_op : (from to : List ℕ) → (most : ℕ) → Pairs → List (List ℕ × List ℕ) × Pairs
scan_op from to most m = (take most (filter (λ pair. is_within from to pair.0) (entries m)), m)
