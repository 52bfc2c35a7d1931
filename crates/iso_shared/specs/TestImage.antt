-- The image of the tests.
use Rattle.std.specs.Prelude.{◌≡◌, []}
use Rattle.iso_core.specs.{declared.core_itself.Core.Core, Core.disk_of}
use Rattle.iso_disk.specs.Disk.{DiskState}
use Rattle.iso_model.specs.{declared.access.Geometry.Geometry, declared.access.Mode.TheVariants.Serial}
use Rattle.iso_shared.specs.{Standing.{Came, Holds}, States.{Start, opened}}

abbrev pub small : Geometry
small = record { block = 64; blocks = 4; log = 4096; mode = Serial; hash = 0; tree = 0; form = 1 }

-- a list of this core may begin there
pub record MayStart {D : Type 0} (disk : D → DiskState) (A : Start) (first : DiskState) (core : Core D) : Type 0 where
  pub holds : Holds disk core (opened A)
  pub live : A.world.live ≡ []
  pub came : Came A first (disk (disk_of core)) []
  pub geometry : A.world.geometry ≡ small
