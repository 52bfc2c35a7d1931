-- A node of a tree: its head and its cells, as the bytes of a block.
use Rattle.std.specs.{Prelude.{◌≡◌, ◌≤◌, ℕ, zero, suc, ◌+◌, ◌-◌, ◌*◌, ◌/◌, ◌%◌, Bool, ◌&&◌, ◌||◌, ◌==◌, not, cond, List, ◌∷◌, ◌++◌, Option, Some, None, Result, Ok, Err, nat_le, nat_lt, slice_index, drop, length, map, replicate}, List.{list_all, flat_map, range_with_len, AllByRecursion}, Int.{w32, to_be_bytes}, Ordering.{nat_cmp, is_lt}, Cmp.Lexicographic.slice_cmp, Str.bytes_eq}
use Rattle.iso_model.specs.{declared.access.Span.Span, Conflict.first_from}
use Rattle.store_model.specs.{declared.stores.Area.Area, Stores.bytes_in, Cells.{cell_count, keys_mark, value_mark, word_at, is_zero, key_part, value_part, is_unused, key_at, all_from, are_key_parts}}

-- whether a key is before another in byte order
abbrev pub before : List ℕ → List ℕ → Bool
before x y = is_lt (slice_cmp nat_cmp x y)

-- a cell that is used: its key and its value part
abbrev pub Cell : Type 0
Cell = List ℕ × List ℕ

-- how many cells are used: the first ones
abbrev pub count_of : List ℕ → ℕ
count_of keys = 256 * slice_index keys 2 + slice_index keys 3

-- Whether a node may have this level: an inner node has at least two cells, the first under the empty key, and a node of the
-- greatest level is not full.
abbrev pub has_level : (size level : ℕ) → (keys : List ℕ) → (count : ℕ) → Bool
has_level size level keys count =
    ((level == 0) || (nat_le 2 count && (length (key_at keys 0) == 0))) && (not (level == 31) || nat_lt count (cell_count size))

-- whether a head is that of a node of this level with `cell_count size` cells at most
abbrev pub has_head : (size level : ℕ) → List ℕ → Bool
has_head size level keys =
    (slice_index keys 0 == 1) && (slice_index keys 1 == level) && list_all is_zero (bytes_in (record { off = 4; len = 60 }) keys)
    && nat_le (count_of keys) (cell_count size)

-- whether `count` cells are used, under keys that rise strictly, and the key parts of the others are zero
abbrev pub are_cells : (size : ℕ) → (keys : List ℕ) → (count : ℕ) → Bool
are_cells size keys count =
    all_from (λ i. is_unused keys i) count (cell_count size - count) && all_from (λ i. before (key_at keys i) (key_at keys (i + 1))) 0 (count - 1)

-- whether head and key parts are those of a node of this level
unfoldable pub is_node : (size level : ℕ) → List ℕ → Bool
is_node size level keys =
    has_head size level keys && (are_key_parts size keys && (are_cells size keys (count_of keys) && has_level size level keys (count_of keys)))

-- the used cell that has the key
abbrev pub cell_of : (key keys : List ℕ) → Option ℕ
cell_of key keys = first_from (λ i. bytes_eq (key_at keys i) key) 0 (count_of keys)

-- The last of the cells from i on, n of them, whose key is at most the searched one; j where there is none.
abbrev pub place_from : (key keys : List ℕ) → (j i n : ℕ) → ℕ
place_from key keys j i zero = j
place_from key keys j i (suc n) = cond (before key (key_at keys i)) j (place_from key keys i (i + 1) n)

-- the last child whose key is at most the searched one
abbrev pub place_of : (key keys : List ℕ) → ℕ
place_of key keys = place_from key keys 0 1 (count_of keys - 1)

-- how many cells in a row from cell i on, at most n of them, have a key before this one
abbrev pub below_from : (key keys : List ℕ) → (i n : ℕ) → ℕ
below_from key keys i zero = 0
below_from key keys i (suc n) = cond (before (key_at keys i) key) (suc (below_from key keys (i + 1) n)) 0

-- the block that a value part names
abbrev pub child_of : List ℕ → ℕ
child_of part = word_at 1 part

-- whether a value part is four bytes that name a block but the first of a region of `blocks` blocks
abbrev pub is_child : (blocks : ℕ) → List ℕ → Bool
is_child blocks part = (slice_index part 0 == 4) && nat_le 1 (child_of part) && nat_lt (child_of part) blocks && list_all is_zero (drop 5 part)

-- the value part that names a block
abbrev pub child_part : ℕ → List ℕ
child_part block = value_part (to_be_bytes w32 block)

-- n cells from cell i on
abbrev pub cells_by : (keys : List ℕ) → (value : ℕ → List ℕ) → (i n : ℕ) → List Cell
cells_by keys value i n = map (λ i. (key_at keys i, value i)) (range_with_len i n)

-- the used cells of a node
abbrev pub used_cells : (size : ℕ) → List ℕ → List Cell
used_cells size block =
    cells_by (bytes_in (keys_mark size) block) (λ i. bytes_in (value_mark size i) block) 0 (count_of (bytes_in (keys_mark size) block))

-- cells that fit their places
abbrev pub FitCells : List Cell → Type 0
FitCells cs = AllByRecursion (λ c. (length c.0 ≤ 28) × (length c.1 ≡ 33)) cs

-- the numbers of a block of cells
pub record IsBlock (size : ℕ) : Type 0 where
  pub whole : 64 * (cell_count size + 1) ≡ size
  pub most : size ≤ 4096

-- the bytes of a node of a level with these cells
abbrev pub node_bytes : (size level : ℕ) → List Cell → List ℕ
node_bytes size level cs =
    (1 ∷ level ∷ length cs / 256 ∷ length cs % 256 ∷ replicate 60 0)
    ++ (flat_map (λ c. key_part c.0) cs ++ replicate (31 * (cell_count size - length cs)) 0)
    ++ (flat_map (λ c. c.1) cs ++ replicate (33 * (cell_count size - length cs)) 0)

-- The head of the region's first block: the number of the root, 0 for an empty tree, and the root's level.
abbrev pub head_mark : Span
head_mark = record { off = 0; len = 8 }

abbrev pub is_head : Area → List ℕ → Bool
is_head a head = nat_lt (word_at 0 head) a.blocks && nat_le (word_at 4 head) 31 && (not (word_at 0 head == 0) || (word_at 4 head == 0))

-- the block of a node, and how many blocks its region has
pub record Node : Type 0 where
  pub block : List ℕ
  pub blocks : ℕ

-- its head and key parts, and the value part of a cell
abbrev pub keys_in : Node → List ℕ
keys_in node = bytes_in (keys_mark (length node.block)) node.block

abbrev pub value_in : Node → (cell : ℕ) → List ℕ
value_in node cell = bytes_in (value_mark (length node.block) cell) node.block

abbrev pub found_or : Option ℕ → (place : ℕ) → Result ℕ ℕ
found_or None place = Err place
found_or (Some cell) place = Ok cell

-- where a look-up of a key in a node ends: at the cell that has it, or else at the place where it would stand
abbrev pub find_in : (key : List ℕ) → Node → Result ℕ ℕ
find_in key node = found_or (cell_of key (keys_in node)) (below_from key (keys_in node) 0 (count_of (keys_in node)))
