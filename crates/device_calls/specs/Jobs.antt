-- What a job in a session of a device has made, once the device is closed.
use Rattle.std.specs.Prelude.{◌≡◌, List, [], length}
use Rattle.iso_core.specs.{declared.core_itself.Core.Core, Core.disk_of}
use Rattle.iso_disk.specs.Disk.{DiskState}
use Rattle.iso_model.specs.World.{World}
use Rattle.iso_shared.specs.{declared.entry.Entry.Entry, Legal.IsLegal, Ports.IsIsolatedAt, Standing.{Came, Holds, start_at}, States.{Start, state_at}}
use Rattle.turn_lock.specs.{declared.view.View.View, Lists.places}
use Rattle.handle_pass.specs.{Calls.HasFinished, Sessions.SessionState}
use Rattle.device_calls.specs.Beginnings.{BeginsAt}

-- The session had seen nothing, and did as is said. With what its end makes its entries are the whole list, which is legal. Each commit
-- in it is isolated, and the core represents it.
pub record HasDone {D : Type 0} (state : D → DiskState) (A : Start) (first : DiskState) (Says : (s t : SessionState) → Type 0) (core : Core D) : Type 0 where
  pub before : SessionState
  pub new : before.seen ≡ []
  pub now : SessionState
  pub says : Says before now
  pub ended : View Entry
  pub finished : HasFinished A now ended
  pub legal : IsLegal A ended.seen
  pub isolated : IsIsolatedAt A ended.seen
  pub all : ended.mine ≡ places (length ended.seen)
  pub holds : Holds state core (state_at A ended.seen)
  pub came : Came A first (state (disk_of core)) ended.seen

-- the same from a world on that the core stood for
pub record WasServed {D : Type 0} (state : D → DiskState) (core : Core D) (Says : Start → (s t : SessionState) → Type 0) (after : Core D) : Type 0 where
  pub world : World
  pub begins : BeginsAt state core world
  pub did : HasDone state (start_at world (state (disk_of core))) (state (disk_of core)) (Says (start_at world (state (disk_of core)))) after
