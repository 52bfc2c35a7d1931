-- The cores of the tests.
use Rattle.std.specs.Prelude.{[]}
use Rattle.iso_core.specs.{declared.core_itself.Core.Core, Core.StandsFor, Standing.{up, down}}
use Rattle.iso_disk.specs.Disk.{DiskState}
use Rattle.iso_model.specs.World.{World}

-- the core is up
pub record IsUp {D : Type 0} (state : D → DiskState) (core : Core D) : Type 0 where
  pub world : World
  pub stands : StandsFor state core world up

-- or a fault of the disk set the core down, and no commit was lost
pub record IsDown {D : Type 0} (state : D → DiskState) (core : Core D) : Type 0 where
  pub world : World
  pub stands : StandsFor state core world (down [])
