-- The cells of a node that gets one more.
use Rattle.std.specs.{Prelude.{◌≡◌, ℕ, zero, suc, ◌+◌, ◌-◌, ◌*◌, ◌<◌, ◌≤◌, ◌==◌, true, cond, List, [], ◌∷◌, nat_lt, length, take, drop, map}, List.{range_with_len, AllByRecursion}, Option.ForSome}
use Rattle.store_model.specs.{declared.stores.Area.Area, Cells.{cell_count, keys_end, value_mark, key_at, are_key_parts}, Stores.bytes_in, TreeNodes.{before, Cell, cells_by, count_of, used_cells}}
use Rattle.iso_model.specs.{Array.Array, Effect.own, Premises.block_at}
use Rattle.store_model.specs.{TreeCalls.need_of, TreeRegion.IsTreeArea}
use Rattle.tx_blocks.specs.{Runs.HasArea, Tx.Tx}

-- how many cells in a row from cell i on, at most n of them, have a key that is not above this one
abbrev pub upto_from : (key keys : List ℕ) → (i n : ℕ) → ℕ
upto_from key keys i zero = 0
upto_from key keys i (suc n) = cond (before key (key_at keys i)) 0 (suc (upto_from key keys (i + 1) n))

-- key and value part of a cell, once a new cell is at a place
abbrev pub key_in_row : (keys : List ℕ) → (place : ℕ) → (key : List ℕ) → (cell : ℕ) → List ℕ
key_in_row keys place key cell = cond (nat_lt cell place) (key_at keys cell) (cond (cell == place) key (key_at keys (cell - 1)))

abbrev pub part_in_row : (size : ℕ) → (node : List ℕ) → (place : ℕ) → (part : List ℕ) → (cell : ℕ) → List ℕ
part_in_row size node place part cell =
    cond (nat_lt cell place) (bytes_in (value_mark size cell) node) (cond (cell == place) part (bytes_in (value_mark size (cell - 1)) node))

-- n cells from one on
abbrev pub row_from : (size : ℕ) → (node : List ℕ) → (place : ℕ) → Cell → (from n : ℕ) → List Cell
row_from size node place new from n = map (λ i. (key_in_row (take (keys_end size) node) place new.0 i, part_in_row size node place new.1 i)) (range_with_len from n)

-- n cells of a node from one on
abbrev pub cells_from : (size : ℕ) → (node : List ℕ) → (from n : ℕ) → List Cell
cells_from size node from n = cells_by (take (keys_end size) node) (λ i. bytes_in (value_mark size i) node) from n

-- the nodes of a path whose blocks stand one after the other
abbrev pub nodes_from : (size : ℕ) → (nodes : List ℕ) → List (ℕ × ℕ) → List (ℕ × List Cell)
nodes_from size nodes [] = []
nodes_from size nodes (p ∷ path) = (p.0, used_cells size (take size nodes)) ∷ nodes_from size (drop size nodes) path

-- a block whose key parts and count are those of a node with `count` cells
pub record IsUsable (size : ℕ) (block : List ℕ) (count : ℕ) : Type 0 where
  pub parts : are_key_parts size (take (keys_end size) block) ≡ true
  pub count_is : count_of (take (keys_end size) block) ≡ count
  pub some : 1 ≤ count
  pub few : count ≤ cell_count size

-- each block of a path is usable, as they stand one after the other
abbrev pub AreUsable : (size : ℕ) → (nodes : List ℕ) → List (ℕ × ℕ) → Type 0
AreUsable size nodes [] = Unit {0}
AreUsable size nodes (p ∷ path) = IsUsable size (take size nodes) p.1 × AreUsable size (drop size nodes) path

-- blocks of a region
abbrev pub AreInside : Area → List (ℕ × ℕ) → Type 0
AreInside a path = AllByRecursion (λ (p : ℕ × ℕ). p.0 < a.blocks) path

abbrev pub AreBlocks : Area → List ℕ → Type 0
AreBlocks a blocks = AllByRecursion (λ (b : ℕ). b < a.blocks) blocks

-- each block of a path is usable, as it lies in an array
abbrev pub ArePathUsable : Area → Array → List (ℕ × ℕ) → Type 0
ArePathUsable a A path = AllByRecursion (λ (p : ℕ × ℕ). IsUsable a.size (block_at A (a.start + p.0)) p.1) path

-- each block of a path is usable in the array that a transaction shows, where it is told
abbrev pub AreShownUsable : Area → Tx → List (ℕ × ℕ) → Type 0
AreShownUsable a t path = ForSome t.base (λ A. ArePathUsable a (own A t.accesses) path)

-- the path of a put that takes new blocks
pub record NeedsBlocks (a : Area) (t : Tx) (path : List (ℕ × ℕ)) : Type 0 where
  pub inside : AreInside a path
  pub long : length path ≤ 32
  pub usable : AreShownUsable a t path
  pub some : 1 ≤ need_of (cell_count a.size) path

-- the nodes of a path in an area of an open transaction, and room for their bytes
pub record HasNodes (t : Tx) (a : Area) (way : List (ℕ × ℕ)) (buffer : List ℕ) : Type 0 where
  pub within : HasArea IsTreeArea t a
  pub is_open : t.is_open ≡ true
  pub path : AreInside a way
  pub usable : AreShownUsable a t way
  pub nodes : length way * a.size ≤ length buffer
