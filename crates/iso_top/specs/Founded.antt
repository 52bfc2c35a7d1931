-- What a core that was opened begins with.
use Rattle.std.specs.Prelude.{◌≡◌, ℕ, List, [], Some}
use Rattle.iso_core.specs.{Core.{StandsFor, disk_of}, Standing.up}
use Rattle.iso_disk.specs.Disk.{DiskState, LeavesOnly}
use Rattle.iso_model.specs.{World.World, Between.ShowsBetween}
use Rattle.iso_top.specs.{declared.opened.Opened.Opened, Starts.OpensTo}

-- The core is up, and represents this world, which has no live transaction. The image as given opens to it. A crash at any moment
-- since the disk was bound left an image that shows its last commit.
pub record BeginsWith {D : Type 0} (state : D → DiskState) (opened : Opened D) (W : World) : Type 0 where
  pub stands : StandsFor state opened.core W up
  pub idle : W.live ≡ []
  pub name : List ℕ
  pub opens : OpensTo ((state opened.given.value).named name) W
  pub bound : D
  pub binds : (state bound).bound ≡ Some ((state bound).clock, name)
  pub moments : LeavesOnly (state bound) (state (disk_of opened.core)) (ShowsBetween W W)
