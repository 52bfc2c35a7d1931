-- Where the files of an image are.
use Rattle.std.specs.Prelude.{ℕ, ◌+◌, ◌-◌, ◌*◌, ◌||◌, ◌==◌, cond, nat_lt}
use Rattle.iso_model.specs.declared.access.Geometry.{Geometry}
use Rattle.store_model.specs.{declared.files.FileAreas.FileAreas, Areas.tree_area, FileCalls.least}

-- how many blocks are after the stores' regions, but no more than the map of one block has bits for
abbrev pub blocks_behind : Geometry → ℕ
blocks_behind g = least (g.blocks - (g.hash + g.tree)) (8 * (g.block - 64))

-- how many blocks the region of the files has; none without a tree store, which holds the names, and none where there is no
-- second block, which the first file would take
abbrev pub file_blocks : Geometry → ℕ
file_blocks g = cond ((g.tree == 0) || nat_lt (blocks_behind g) 2) 0 (blocks_behind g)

-- where the files are: their names in the tree store, their blocks after it
abbrev pub files_area : Geometry → FileAreas
files_area g = record { tree = tree_area g; files = record { size = g.block; start = g.hash + g.tree; blocks = file_blocks g } }
