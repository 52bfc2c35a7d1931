-- What clauses see of a desk: its transactions over a core, and whether it is up.
use Rattle.std.specs.Prelude.{◌≡◌, ℕ, Bool, true, Result, Err}
use Rattle.iso_disk.specs.Disk.{DiskState}
use Rattle.iso_model.specs.World.{World}
use Rattle.iso_core.specs.Core.{disk_of}
use Rattle.script_model.specs.{Step.step, declared.script.Op.Op, declared.script.Op.TheVariants.{Await, Begin, Group, Release, Takeover}, declared.script.Reply.Reply, declared.stop.Stop.Stop}
use Rattle.script_model.specs.declared.stop.Stop.TheVariants as stop
use Rattle.script_runner.specs.{Stopped.GoesOn, Told.IsPlain}
use Rattle.iso_machine.specs.Answering.{AnswersTold}
use Rattle.device_desk.specs.{declared.table.Table.Table, Seats.IsTableOf}

pub record Device (D : Type 0) : Type 0 where
  pub table : Table D
  pub up : Bool

-- it is up, and represents the world
pub record StandsAt {D : Type 0} (state : D → DiskState) (d : Device D) (W : World) : Type 0 where
  pub is_up : d.up ≡ true
  pub table : IsTableOf state d.table W

-- the disk that it is over
abbrev pub disk_under : {D : Type 0} → Device D → D
disk_under d = disk_of d.table.core

-- what that disk is to those who call it
abbrev pub state_at : {D : Type 0} → (state : D → DiskState) → Device D → DiskState
state_at state d = state (disk_under d)

-- an operation of one transaction, or of the image
abbrev pub IsAsked : Op → Type 0
IsAsked (Begin mode) = ⊥
IsAsked (Release text) = ⊥
IsAsked (Takeover text) = ⊥
IsAsked (Await text) = ⊥
IsAsked (Group texts) = ⊥
IsAsked op = Unit {0}

-- From the world W the operation of the transaction of this number is answered as the model answers that of the client of this
-- number, and the desk then represents the model's world.
abbrev pub Answered : {D : Type 0} (state : D → DiskState) (old new : Device D) (W : World) (number : ℕ) → Op → Result Reply Stop → Type 0
Answered state old new W number op result =
    AnswersTold (GoesOn op) (StandsAt state new) (state_at state old) (state_at state new) W (step W number op) (IsPlain op) result

-- a desk that is down answers so, and stays as it is
pub record IsRefusedDown {D : Type 0} (old new : Device D) (result : Result Reply Stop) : Type 0 where
  pub answer : result ≡ Err stop.Down
  pub same : new ≡ old
