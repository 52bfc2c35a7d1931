-- How a machine answers an operation.
use Rattle.std.specs.Prelude.{◌≡◌, IfErr, IfOk, IsErrOf, IsSome, OnOk, Result}
use Rattle.iso_disk.specs.Disk.{DiskState, LeavesOnly}
use Rattle.iso_model.specs.{World.World, Between.{ShowsEither, ShowsLast}}
pub use Rattle.script_model.specs.CoreReplies.{refused as answer_to}
use Rattle.script_model.specs.{declared.script.Reply.Reply, declared.stop.Stop.Stop}
use Rattle.script_model.specs.declared.stop.Stop.TheVariants as stop
use Rattle.script_runner.specs.{Counts.BlamesDisk, Stopped.StandsStill, Told.{IfTold, SameButShown, StandsSo}}
use Rattle.iso_core.specs.Core.{disk_of}
use Rattle.iso_machine.specs.{declared.machine.Machine.Machine, Standing.{IsMachineOf, core_of}}

-- why a call may stop such that the machine goes on: for each cause, for want of memory, for none
abbrev pub Always : Stop → Type 0
Always why = Unit {0}

abbrev pub Wanting : Stop → Type 0
Wanting why = why ≡ stop.Memory

abbrev pub Never : Stop → Type 0
Never why = ⊥

-- From the world W, the reply and the world are those that are given, but for bytes that are shown and that the disk does
-- not tell. At each moment an image shows the world before or the world after, and the world before where memory was wanting. Without
-- a reply it represents W, if it goes on then.
pub record Answers (goes_on : Stop → Type 0) (stands : World → Type 0) (old new : DiskState) (W : World) (given : Reply × World) (result : Result Reply Stop) : Type 0 where
  pub reply : IfOk result (λ r. IfTold old (r ≡ given.0))
  pub but_shown : IfOk result (λ r. SameButShown r given.0)
  pub told : OnOk result (IfTold old (IsSome new.contents))
  pub world : OnOk result (stands given.1)
  pub moments : LeavesOnly old new (ShowsEither W given.1)
  pub unmade : IsErrOf result stop.Memory → LeavesOnly old new (ShowsLast W)
  pub up : ¬ IsErrOf result stop.Down
  pub cause : BlamesDisk old.faults new.faults result
  pub stopped : IfErr result (λ why. goes_on why → stands W)

-- So, but for what a store's call, which is not plain, does with bytes that the disk does not tell.
pub record AnswersTold (goes_on : Stop → Type 0) (stands : World → Type 0) (old new : DiskState) (W : World) (given : Reply × World) (plain : Type 0) (result : Result Reply Stop) : Type 0 where
  pub reply : IfOk result (λ r. IfTold old (r ≡ given.0))
  pub but_shown : plain → IfOk result (λ r. SameButShown r given.0)
  pub told : OnOk result (IfTold old (IsSome new.contents))
  pub world : OnOk result (StandsSo stands old plain given.1)
  pub moments : LeavesOnly old new (ShowsEither W given.1)
  pub unmade : IsErrOf result stop.Memory → LeavesOnly old new (ShowsLast W)
  pub up : ¬ IsErrOf result stop.Down
  pub cause : BlamesDisk old.faults new.faults result
  pub stopped : IfErr result (λ why. goes_on why → StandsStill stands plain W)

-- so, of a machine, from each world that it represents
abbrev pub AnswersFrom : {D : Type 0} → (goes_on : Stop → Type 0) → (state : D → DiskState) → (old new : Machine D) → (given : World → Reply × World) → Result Reply Stop → Type 0
AnswersFrom goes_on state old new given result =
    (W : World) → IsMachineOf state old W → Answers goes_on (IsMachineOf state new) (state (disk_of (core_of old))) (state (disk_of (core_of new))) W (given W) result

abbrev pub AnswersToldFrom : {D : Type 0} → (goes_on : Stop → Type 0) → (state : D → DiskState) → (old new : Machine D) → (given : World → Reply × World) → (plain : Type 0) → Result Reply Stop → Type 0
AnswersToldFrom goes_on state old new given plain result =
    (W : World) → IsMachineOf state old W → AnswersTold goes_on (IsMachineOf state new) (state (disk_of (core_of old))) (state (disk_of (core_of new))) W (given W) plain result
