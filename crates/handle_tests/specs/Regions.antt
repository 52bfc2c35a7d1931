-- The regions of the stores that tests call.
use Rattle.std.specs.Prelude.{◌+◌, ◌≤◌, IsTrue}
use Rattle.device_calls.specs.Regions.{area_in}
use Rattle.iso_model.specs.{declared.access.Geometry.Geometry, Geometry.is_valid}
use Rattle.store_model.specs.{declared.stores.Region.Region, HashRegion.IsHashArea, TreeRegion.IsTreeArea}

-- on a valid image, a hash store's
abbrev pub IsHashOn : Geometry → Region → Type 0
IsHashOn g r = IsTrue (is_valid g) × IsHashArea (area_in g r) × (r.start + r.size ≤ g.blocks)

-- and a tree store's
abbrev pub IsTreeOn : Geometry → Region → Type 0
IsTreeOn g r = IsTrue (is_valid g) × IsTreeArea (area_in g r) × (r.start + r.size ≤ g.blocks)
