-- A log that may be appended to.
use Rattle.std.specs.Prelude.{ℕ, ◌+◌, ◌≤◌, List}
use Rattle.iso_model.specs.{declared.access.Geometry.Geometry, Image.Written}
use Rattle.iso_disk.specs.Disk.{DiskState}
use Rattle.iso_log.specs.{Extent.Extent, Log.HasTold}

-- The log lies in the disk, and in each of its images it has just its records, and then a closed gate.
pub record IsReady (g : Geometry) (log : Extent) (d : DiskState) : Type 0 where
  pub fits : log.place + log.room ≤ d.size
  pub first : ℕ
  pub told : List Written
  pub has : HasTold log g first told d.now
