-- What a core represents that a device may begin with.
use Rattle.std.specs.Prelude.{◌≡◌, []}
use Rattle.iso_core.specs.{declared.core_itself.Core.Core, Core.StandsFor, Standing.up}
use Rattle.iso_disk.specs.Disk.{DiskState}
use Rattle.iso_model.specs.World.{World}

-- the core is up, and represents this world, which has no live transaction
pub record BeginsAt {D : Type 0} (state : D → DiskState) (core : Core D) (W : World) : Type 0 where
  pub stands : StandsFor state core W up
  pub idle : W.live ≡ []
