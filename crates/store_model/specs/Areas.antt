-- Where the stores of an image are.
use Rattle.std.specs.Prelude.{ℕ, ◌+◌, Bool, ◌&&◌, nat_le, nat_lt}
use Rattle.iso_model.specs.declared.access.Geometry.{Geometry}
use Rattle.store_model.specs.declared.stores.Area.{Area}

-- where the hash store is
abbrev pub hash_area : Geometry → Area
hash_area g = record { size = g.block; start = 0; blocks = g.hash }

-- where the tree store is: after the hash store
abbrev pub tree_area : Geometry → Area
tree_area g = record { size = g.block; start = g.hash; blocks = g.tree }

-- whether the block is one of the area
abbrev pub in_area : Area → ℕ → Bool
in_area a b = nat_le a.start b && nat_lt b (a.start + a.blocks)
