-- The geometry of a small image.
use Rattle.iso_model.specs.{declared.access.Geometry.Geometry, declared.access.Mode.TheVariants.Serial}

-- four blocks of 64 bytes, and logs of 256
abbrev pub small : Geometry
small = record { block = 64; blocks = 4; log = 256; mode = Serial; hash = 0; tree = 0; form = 1 }
