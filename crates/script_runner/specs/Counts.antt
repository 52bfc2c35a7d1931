-- Which count rose where a step stopped or a run ended, and that the others stand.
use Rattle.std.specs.Prelude.{◌≡◌, ◌⊎◌, ℕ, ◌≤◌, Result, IsErrOf, OnOk}
use Rattle.counts.specs.Count.{Rose}
use Rattle.iso_io.specs.Sink.{SinkState, CountsStand}
use Rattle.script_model.specs.{declared.script.Reply.Reply, declared.stop.Stop.Stop}
use Rattle.script_model.specs.declared.stop.Stop.TheVariants as stop
use Rattle.script_runner.specs.{declared.run_end.RunEnd.RunEnd, declared.run_end.RunEnd.TheVariants.{Disk, Input, Output}}

-- the disk's count of faults did not fall, a step that blames the disk raised it, and after any other answer it is what it was
pub record BlamesDisk (before now : ℕ) (result : Result Reply Stop) : Type 0 where
  pub later : before ≤ now
  pub failed : IsErrOf result stop.Disk → Rose before now
  pub passed : OnOk result (now ≡ before)
  pub memory : IsErrOf result stop.Memory → now ≡ before

-- the disk's count of faults rose where the run ended for the disk, and is what it was at each other end
abbrev pub DiskCount : RunEnd → (before now : ℕ) → Type 0
DiskCount Disk before now = Rose before now
DiskCount end before now = now ≡ before

-- the source's count of faults rose where the run ended for the source, and is what it was at each other end
abbrev pub SourceCount : RunEnd → (before now : ℕ) → Type 0
SourceCount Input before now = Rose before now
SourceCount end before now = now ≡ before

-- the sink failed, or else it took nothing of a piece that is not empty
abbrev pub SinkFailed : SinkState → SinkState → Type 0
SinkFailed old new =
    (Rose old.faults new.faults × (new.refusals ≡ old.refusals)) ⊎ (Rose old.refusals new.refusals × (new.faults ≡ old.faults))

-- a count of the sink rose where the run ended for the sink, and both stand where they stood at each other end
abbrev pub SinkCounts : RunEnd → SinkState → SinkState → Type 0
SinkCounts Output old new = SinkFailed old new
SinkCounts end old new = CountsStand old new
