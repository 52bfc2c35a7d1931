-- How the lines of a run are answered, one after the other.
use Rattle.std.specs.Prelude.{◌≡◌, ℕ, ◌+◌, ◌≤◌, List, [], ◌∷◌, ◌++◌, Bool, Result, Ok, Err, IfErr, IsSome, OnOk, length}
use Rattle.iso_disk.specs.Disk.{DiskState, LeavesOnly}
use Rattle.iso_io.specs.{Source.{SourceState, Took}, Sink.{SinkState, CountsStand, Wrote}}
use Rattle.script_model.specs.{declared.script.Line.Line, declared.script.LineError.LineError, declared.script.LineError.TheVariants.{Cause, Memory as NoMemory}, declared.script.Parsed.Parsed, declared.script.Parsed.TheVariants.{Skip, Line as Says}, Script.{Script, replies, script_from}, Text.pieces, Operations.{AreLines, IsOp}}
use Rattle.iso_model.specs.{World.World, Worlds.IsWorld, Between.ShowsBetween}
use Rattle.script_runner.specs.{declared.run_end.Halt.Halt, declared.run_end.RunEnd.RunEnd, Told.IfTold, Replies.PutReplies, Run.{AreLinesOf, Answered, EndsInFeed, HasNoFeed, IsBehind}}
use Rattle.script_model.specs.declared.stop.Stop.{Stop}
use Rattle.script_model.specs.declared.stop.Stop.TheVariants as stop
use Rattle.script_runner.specs.declared.run_end.Halt.TheVariants as halt
use Rattle.script_runner.specs.declared.run_end.RunEnd.TheVariants as end

-- a line that a machine may be asked
pub record IsLine (line : Line) : Type 0 where
  pub least : 1 ≤ line.client
  pub largest : line.client ≤ 64
  pub op : IsOp line.op

-- what a text says is such a line
abbrev pub SaysLine : Parsed → Type 0
SaysLine Skip = Unit {0}
SaysLine (Says line) = IsLine line

-- the lines that a text says: one or none
abbrev pub lines_of : (number : ℕ) → Parsed → List (ℕ × Line)
lines_of number Skip = []
lines_of number (Says line) = (number, line) ∷ []

-- how a run ends that a line ends
abbrev pub end_of : Halt → RunEnd
end_of (halt.BadLine line) = end.BadLine line
end_of halt.Disk = end.Disk
end_of halt.Output = end.Output
end_of halt.Memory = end.Memory

-- how a line that says nothing ends a run
abbrev pub halt_of : (number : ℕ) → LineError → Halt
halt_of number (Cause cause) = halt.BadLine (record { line = number; cause = cause })
halt_of number NoMemory = halt.Memory

-- how a line ends a run that the machine does not answer
abbrev pub stopped : Stop → Halt
stopped stop.Down = halt.Disk
stopped stop.Disk = halt.Disk
stopped stop.Memory = halt.Memory

-- a line that says something ends a run so
abbrev pub IsByStep : Halt → Type 0
IsByStep (halt.BadLine line) = ⊥
IsByStep end = Unit {0}

-- From the world W these lines were answered, no count rose, and the sink did not break.
pub record Ran (stands : World → Type 0) (disk_old disk_new : DiskState) (output_old output_new : SinkState) (W : World) (done : List (ℕ × Line)) : Type 0 where
  pub sound : IsWorld W
  pub good : AreLines done
  pub replies : IfTold disk_old (Wrote output_old output_new (replies W done))
  pub told : IfTold disk_old (IsSome disk_new.contents)
  pub reached : World
  pub reached_is : IsBehind disk_old W done reached
  pub on_any_disk : PutReplies output_old output_new W done reached
  pub moments : LeavesOnly disk_old disk_new (ShowsBetween W reached)
  pub exit : (c : List ℕ) → disk_new.now c → ShowsBetween reached reached c
  pub world : stands reached
  pub disk : disk_new.faults ≡ disk_old.faults
  pub output : CountsStand output_old output_new
  pub whole : output_new.is_broken ≡ output_old.is_broken

-- What answering a text does, by what it says and what the answer is.
abbrev pub AnswersParsed : (stands : World → Type 0) (disk_old disk_new : DiskState) (output_old output_new : SinkState) (W : World) (number : ℕ)
    → Result Parsed LineError → Result (Unit {0}) Halt → Type 0
AnswersParsed stands disk_old disk_new output_old output_new W number (Ok parsed) (Ok _) =
    Ran stands disk_old disk_new output_old output_new W (lines_of number parsed)
AnswersParsed stands disk_old disk_new output_old output_new W number (Ok (Says line)) (Err halt) =
    IsByStep halt × Answered stands disk_old disk_new output_old output_new W (end_of halt) [] ((number, line) ∷ [])
AnswersParsed stands disk_old disk_new output_old output_new W number (Err error) (Err halt) =
    (halt ≡ halt_of number error) × Ran stands disk_old disk_new output_old output_new W []
AnswersParsed stands disk_old disk_new output_old output_new W number parsed result = ⊥

-- a text is a line, its line feed, and what follows that
pub record IsSplit (text line rest : List ℕ) : Type 0 where
  pub split : text ≡ line ++ 10 ∷ rest
  pub no_feed : HasNoFeed line

-- bytes before the first piece
abbrev pub in_front : List ℕ → List (List ℕ) → List (List ℕ)
in_front front [] = front ∷ []
in_front front (piece ∷ more) = (front ++ piece) ∷ more

-- the script after these lines
abbrev pub behind : List (ℕ × Line) → Script → Script
behind done rest = record { lines = done ++ rest.lines; bad = rest.bad }

-- Whole lines: whatever follows them, they say `done`, and the next line has this number.
abbrev pub SaysFirst : (front : List ℕ) (number : ℕ) (done : List (ℕ × Line)) → Type 0
SaysFirst front number done =
    (cut : Bool) (more : List ℕ) → script_from cut 1 (pieces 10 (front ++ more)) ≡ behind done (script_from cut number (pieces 10 more))

-- Of the bytes taken, the whole lines were answered; `held` is the front of the next line.
pub record Reads (stands : World → Type 0) (disk_old disk_new : DiskState) (output_old output_new : SinkState) (W : World) (bytes : List ℕ) (number : ℕ)
    (held : List ℕ) : Type 0 where
  pub sound : IsWorld W
  pub front : List ℕ
  pub done : List (ℕ × Line)
  pub bytes_are : bytes ≡ front ++ held
  pub whole : EndsInFeed front
  pub says : SaysFirst front number done
  pub no_feed : HasNoFeed held
  pub small : number ≤ length front + 1
  pub ran : Ran stands disk_old disk_new output_old output_new W done

-- A run ends so among these bytes, whatever follows them.
pub record EndsAt (stands : World → Type 0) (disk_old disk_new : DiskState) (output_old output_new : SinkState) (W : World) (bytes : List ℕ) (end : RunEnd) : Type 0 where
  pub done : List (ℕ × Line)
  pub next : List (ℕ × Line)
  pub lines : (cut : Bool) (more : List ℕ) → AreLinesOf end (script_from cut 1 (pieces 10 (bytes ++ more))) done next
  pub answered : Answered stands disk_old disk_new output_old output_new W end done next

-- What answering more bytes does, wherever a run was: those before them and they are read, and the machine stands for a world; or
-- the run ends among them.
pub record AnswersBytes {A : Type 0} (stands : A → World → Type 0) (disk : A → DiskState) (machine_old machine_new : A) (output_old output_new : SinkState)
    (number_old number_new : ℕ) (held_old held_new more : List ℕ) (result : Result (Unit {0}) Halt) : Type 0 where
  pub world : OnOk result ((W : World) × stands machine_new W)
  pub reads : (W : World) (m : A) (k : SinkState) (bytes : List ℕ) → Reads (stands machine_old) (disk m) (disk machine_old) k output_old W bytes number_old held_old
      → OnOk result (Reads (stands machine_new) (disk m) (disk machine_new) k output_new W (bytes ++ more) number_new held_new)
  pub ends : (W : World) (m : A) (k : SinkState) (bytes : List ℕ) → Reads (stands machine_old) (disk m) (disk machine_old) k output_old W bytes number_old held_old
      → IfErr result (λ halt. EndsAt (stands machine_new) (disk m) (disk machine_new) k output_new W (bytes ++ more) (end_of halt))

-- The bytes are those that the source gave, in order, and it did not fail.
pub record Gave (old new : SourceState) (bytes : List ℕ) : Type 0 where
  pub took : Took old new bytes
  pub faults : new.faults ≡ old.faults
