-- A core that a call begins with, or why there is none.
use Rattle.std.specs.{Prelude.{◌≡◌, ◌⊎◌, ℕ, ◌≤◌, List, [], Option, Some, None}, Option.ForSome}
use Rattle.iso_disk.specs.Disk.{DiskState, LeavesOnly}
use Rattle.iso_model.specs.{declared.access.Geometry.Geometry, declared.limits.TheConstants.LAST, World.World, Between.ShowsBetween}
use Rattle.iso_core.specs.{declared.core_itself.Core.Core, Core.{StandsFor, disk_of}, Standing.up}
use Rattle.iso_recover.specs.Cause.{IsBlamed, IsTest}
use Rattle.iso_image.specs.{declared.open_error.OpenError.OpenError, Refusal.refusal}
use Rattle.iso_top.specs.Starts.{GoesOnTelling, IsUnbegun, IsUntouched, MayBeUnmade, StartsFrom, WasBoundOnce}

-- The core is up and represents the world that the call begins with, which has no live transaction. Its disk was bound to the
-- name; each image since then is as it is before a script, and none of this project or one that shows that world.
pub record HasCore {D : Type 0} (state : D → DiskState) (made : Option Geometry) (name : List ℕ) (disk : D) (core : Core D) : Type 0 where
  pub world : World
  pub stands : StandsFor state core world up
  pub idle : world.live ≡ []
  pub next : world.next ≤ LAST
  pub starts : StartsFrom made ((state disk).named name) world
  pub told : GoesOnTelling name (state disk) (state (disk_of core))
  pub faults : (state (disk_of core)).faults ≡ (state disk).faults
  pub bound : D
  pub binds : (state bound).bound ≡ Some ((state bound).clock, name)
  pub once : WasBoundOnce (state disk) (state bound)
  pub untouched : LeavesOnly (state bound) (state (disk_of core)) (IsUntouched made ((state disk).named name))
  pub moments : LeavesOnly (state bound) (state (disk_of core)) (λ c. MayBeUnmade made c ⊎ ShowsBetween world world c)

-- There is no core, for this reason.
pub record HasNoCore (made : Option Geometry) (name : List ℕ) (e : OpenError) (disk_old disk_new : DiskState) : Type 0 where
  pub unbegun : IsUnbegun made (disk_old.named name) name e disk_new
  pub once : WasBoundOnce disk_old disk_new
  pub refused : IsTest e → (made ≡ None) × ForSome (disk_old.named name) (λ c. refusal c ≡ Some e)
  pub cause : IsBlamed disk_old.faults disk_new.faults e
