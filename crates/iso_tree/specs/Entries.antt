-- The cell that an entry becomes, and the cells of a node that gets it.
use Rattle.std.specs.Prelude.{ℕ, List, take}
use Rattle.store_model.specs.{Cells.{keys_end, value_part}, TreeNodes.Cell}
use Rattle.iso_tree.specs.{Rows.{key_in_row, row_from}, declared.entry.Entry.Entry, declared.growth.Growth.Growth}

-- the cell of an entry
abbrev pub spelled : Entry → Cell
spelled e = (e.key.now, value_part e.value.now)

-- n cells of the node from one on, once it has the new one
abbrev pub row : Growth → (from n : ℕ) → List Cell
row g from n = row_from g.area.size g.node.now g.place (spelled g.entry.now) from n

-- the key of one of them
abbrev pub key_at_row : Growth → (cell : ℕ) → List ℕ
key_at_row g cell = key_in_row (take (keys_end g.area.size) g.node.now) g.place g.entry.now.key.now cell
