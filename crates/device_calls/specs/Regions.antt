-- Regions on the blocks of an image.
use Rattle.iso_model.specs.declared.access.Geometry.{Geometry}
use Rattle.store_model.specs.{declared.stores.Area.Area, declared.stores.Region.Region}

-- the area of a region on the image's blocks
abbrev pub area_in : Geometry → Region → Area
area_in g r = record { size = g.block; start = r.start; blocks = r.size }
