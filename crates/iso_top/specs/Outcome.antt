-- What a call on an image has done.
use Rattle.std.specs.{Prelude.{◌≡◌, ◌≢◌, ◌⊎◌, ℕ, List, [], ◌++◌, Option, Some, None, filter, length}, Option.ForSome}
use Rattle.command_line.specs.{declared.task.Task.Task, declared.task.Task.TheVariants.{New, Run, Par, Recover, Bench}, Requests.made_geometry}
use Rattle.counts.specs.Count.{Rose}
use Rattle.iso_disk.specs.Disk.{DiskState, IsBoundTo, SinceBind}
use Rattle.iso_io.specs.{Source.SourceState, Sink.SinkState}
use Rattle.iso_model.specs.{declared.access.Geometry.Geometry, History.History, World.World, Worlds.IsWorld, Between.ShowsBetween}
use Rattle.script_model.specs.{declared.script.Line.Line, declared.script.Reply.Reply, Bench.{bench_geometry, bench_output, bench_text, bench_world, is_committed, is_conflict, recover_output}, Script.{after, script}}
use Rattle.iso_recover.specs.Cause.{IsBlamed, IsTest}
use Rattle.iso_image.specs.{declared.open_error.OpenError.OpenError, Refusal.refusal}
use Rattle.script_runner.specs.{Replies.text_of, Run.HasRun, declared.lines.ScriptError.ScriptError, declared.run_end.RunEnd.RunEnd}
use Rattle.script_runner.specs.declared.run_end.RunEnd.TheVariants as end
use Rattle.sha2.specs.Sha256.{sha256}
use Rattle.store_scripts.specs.InOrder.{FilesAnswer, StoresAnswer}
use Rattle.iso_top.specs.{Clients.{HasRunClients, HasRunNone}, Prints.{Printed, WasCut, WroteWhole}, Starts.{GoesOnTelling, IsUnbegun, IsUntouched, MayBeUnmade, OpensTo, StartsFrom, TellsNamed, WasBoundOnce}, Texts.{bench_text_of, disk_fault_text, end_status, end_text, error_status, error_text, memory_text, script_error_status, usage_text}}

-- one of the statuses of the program
abbrev pub IsStatus : ℕ → Type 0
IsStatus status = (status ≡ 0) ⊎ (status ≡ 2) ⊎ (status ≡ 3) ⊎ (status ≡ 4) ⊎ (status ≡ 5) ⊎ (status ≡ 6) ⊎ (status ≡ 7) ⊎ (status ≡ 8)

-- No script was begun, for this reason: the image as given fails this test, or its disk failed, or memory was wanting. The
-- script was not read, and the line that tells the reason was put.
pub record HasNotBegun (made : Option Geometry) (name : List ℕ) (e : OpenError) (disk_old disk_new : DiskState) (input_old input_new : SourceState)
    (output_old output_new : SinkState) : Type 0 where
  pub unbegun : IsUnbegun made (disk_old.named name) name e disk_new
  pub once : WasBoundOnce disk_old disk_new
  pub refused : IsTest e → (made ≡ None) × ForSome (disk_old.named name) (λ c. refusal c ≡ Some e)
  pub cause : IsBlamed disk_old.faults disk_new.faults e
  pub unread : input_new ≡ input_old
  pub printed : Printed output_old output_new (error_text e)

-- A run was begun from the world W: since the bind the disk is what it was when the run began, or was left by the run.
pub record HasBegun (made : Option Geometry) (name : List ℕ) (disk_old start disk_new : DiskState) (W V : World) : Type 0 where
  pub starts : StartsFrom made (disk_old.named name) W
  pub sound : IsWorld W
  pub told : GoesOnTelling name disk_old start
  pub faults : start.faults ≡ disk_old.faults
  pub bound : IsBoundTo name disk_new
  pub once : WasBoundOnce disk_old disk_new
  -- each image that a crash might have left since the bind shows the history at a commit from the first world's last one on
  pub since : SinceBind disk_new (λ c. MayBeUnmade made c ⊎ ShowsBetween W V c)

-- what was put after the replies of a run that ended so
abbrev pub PrintedEnd : RunEnd → SinkState → SinkState → Type 0
PrintedEnd end.Done old new = new ≡ old
PrintedEnd end.Output old new = new ≡ old
PrintedEnd e old new = Printed old new (end_text e)

-- A script was answered. `run` has the reply theorem, the order theorem and the crash theorem of it, in the fields that are
-- named so; with `begun` the crash theorem speaks of each moment since the bind.
pub record HasAnswered {D : Type 0} (state : D → DiskState) (made : Option Geometry) (name : List ℕ) (end : RunEnd) (disk_old disk_new : D)
    (input_old input_new : SourceState) (output_old output_new : SinkState) : Type 0 where
  pub world : World
  -- the disk when the run began, and the sink when it ended
  pub start : D
  pub replied : SinkState
  pub run : HasRun (λ V. Unit {0}) (state start) (state disk_new) input_old input_new output_old replied world end
  pub begun : HasBegun made name (state disk_old) (state start) (state disk_new) world run.answered.final
  -- the store theorem of all lines, of the hash store and the tree store, and of the hash store and the files
  pub stores : StoresAnswer world (run.done ++ run.next)
  pub files : FilesAnswer world (run.done ++ run.next)
  pub last : PrintedEnd end replied output_new

-- A result was put whole, or, only where the sink failed, a front of it: it is this text, where the disk told what the name names.
abbrev pub PrintedResult : (status : ℕ) → (tells : Type 0) → (defined : List ℕ) → SinkState → SinkState → Type 0
PrintedResult status tells defined old new =
    (text : List ℕ) × (tells → text ≡ defined) × (((status ≡ 0) × WroteWhole old new text) ⊎ ((status ≡ 7) × WasCut old new text))

-- what `recover` has put, by its status
abbrev pub PrintedDigest : (status : ℕ) → (tells : Type 0) → History → SinkState → SinkState → Type 0
PrintedDigest status tells H old new =
    PrintedResult status tells (recover_output H) old new ⊎ ((status ≡ 5) × Printed old new disk_fault_text) ⊎ ((status ≡ 8) × Printed old new memory_text)

-- The image was opened, and its last commit told. Nothing was written to it since the bind, and the input was not read.
pub record HasRecovered (name : List ℕ) (status : ℕ) (disk_old disk_new : DiskState) (input_old input_new : SourceState) (output_old output_new : SinkState) : Type 0 where
  pub world : World
  pub opens : OpensTo (disk_old.named name) world
  pub bound : IsBoundTo name disk_new
  pub once : WasBoundOnce disk_old disk_new
  pub unwritten : SinceBind disk_new (IsUntouched None (disk_old.named name))
  pub printed : PrintedDigest status (TellsNamed name disk_old) world.history output_old output_new
  pub failed : status ≡ 5 → Rose disk_old.faults disk_new.faults
  pub passed : status ≢ 5 → disk_new.faults ≡ disk_old.faults
  pub unread : input_new ≡ input_old

-- What `bench` has put, by how the run over the script that it drew ended. The replies to it are held in memory.
abbrev pub PrintedBench : (seed count status : ℕ) → RunEnd → (tells : Type 0) → SinkState → SinkState → Type 0
PrintedBench seed count status end.Done tells old new = PrintedResult status tells (bench_output seed count) old new
PrintedBench seed count status (end.BadLine bad) tells old new = ⊥
PrintedBench seed count status end.Disk tells old new = (status ≡ 5) × Printed old new disk_fault_text
PrintedBench seed count status end.Input tells old new = ⊥
PrintedBench seed count status end.Output tells old new = (status ≡ 8) × Printed old new memory_text
PrintedBench seed count status end.Memory tells old new = (status ≡ 8) × Printed old new memory_text

-- the line of a bench of `count` rounds whose lines were given these replies, one each
abbrev pub summary_of : (count : ℕ) → List (ℕ × Line) → (given : List Reply) → List ℕ
summary_of count lines given = bench_text_of count (length (filter is_committed given)) (length (filter is_conflict given)) (sha256 (text_of lines given))

-- what was put of a run over a whole script whose line is this one
abbrev pub PrintedLine : RunEnd → (status : ℕ) → (line : List ℕ) → SinkState → SinkState → Type 0
PrintedLine end.Done status line old new = ((status ≡ 0) × WroteWhole old new line) ⊎ ((status ≡ 7) × WasCut old new line)
PrintedLine e status line old new = Unit {0}

-- A script was drawn and answered on a new image: `run` has the order theorem and the crash theorem of it, with the replies that
-- were held in place of those put.
pub record HasBenched {D : Type 0} (state : D → DiskState) (name : List ℕ) (seed count status : ℕ) (disk_old disk_new : D)
    (input_old input_new : SourceState) (output_old output_new : SinkState) : Type 0 where
  pub end : RunEnd
  pub start : D
  pub drawn : SourceState
  pub rest : SourceState
  pub empty : SinkState
  pub held : SinkState
  pub script_is : drawn.rest ≡ Some (bench_text count seed)
  pub nothing_held : empty.written ≡ Some []
  pub run : HasRun (λ V. Unit {0}) (state start) (state disk_new) drawn rest empty held bench_world end
  pub begun : HasBegun (Some bench_geometry) name (state disk_old) (state start) (state disk_new) bench_world (after bench_world (run.done ++ run.next))
  pub printed : PrintedBench seed count status end (TellsNamed name (state disk_old)) output_old output_new
  -- whatever the disk tells, the line counts the replies that were given, which are the model's but for the bytes that they show
  pub counted : PrintedLine end status (summary_of count run.done run.answered.on_any_disk.given) output_old output_new
  pub unread : input_new ≡ input_old

-- a call on an image has ended so, by its task
abbrev pub HasDone : {D : Type 0} → (state : D → DiskState) → Task → (name : List ℕ) → (status : ℕ) → D → D → SourceState → SourceState → SinkState → SinkState → Type 0
HasDone state (New g) name status disk_old disk_new input_old input_new output_old output_new =
    (e : RunEnd) × (status ≡ end_status e) × HasAnswered state (Some g) name e disk_old disk_new input_old input_new output_old output_new
HasDone state Run name status disk_old disk_new input_old input_new output_old output_new =
    (e : RunEnd) × (status ≡ end_status e) × HasAnswered state None name e disk_old disk_new input_old input_new output_old output_new
HasDone state Par name status disk_old disk_new input_old input_new output_old output_new =
    ((e : ScriptError) × (status ≡ script_error_status e) × HasRunNone name e (state disk_old) (state disk_new) input_old input_new output_old output_new)
    ⊎ HasRunClients state name status disk_old disk_new input_old input_new output_old output_new
HasDone state Recover name status disk_old disk_new input_old input_new output_old output_new =
    HasRecovered name status (state disk_old) (state disk_new) input_old input_new output_old output_new
HasDone state (Bench seed count) name status disk_old disk_new input_old input_new output_old output_new =
    HasBenched state name seed count status disk_old disk_new input_old input_new output_old output_new

-- A call that the words ask for: it was not begun, or it has ended.
abbrev pub HasMet : {D : Type 0} → (state : D → DiskState) → Task → (name : List ℕ) → (status : ℕ) → D → D → SourceState → SourceState → SinkState → SinkState → Type 0
HasMet state task name status disk_old disk_new input_old input_new output_old output_new =
    ((e : OpenError) × (status ≡ error_status e) × HasNotBegun (made_geometry task) name e (state disk_old) (state disk_new) input_old input_new output_old output_new)
    ⊎ HasDone state task name status disk_old disk_new input_old input_new output_old output_new

-- nothing was done with the image and the input
abbrev pub IsUnused : {D : Type 0} → (disk_old disk_new : D) → SourceState → SourceState → Type 0
IsUnused disk_old disk_new input_old input_new = (disk_new ≡ disk_old) × (input_new ≡ input_old)

-- memory for the words was wanting
abbrev pub HasNoWords : {D : Type 0} → (status : ℕ) → (disk_old disk_new : D) → SourceState → SourceState → SinkState → SinkState → Type 0
HasNoWords status disk_old disk_new input_old input_new output_old output_new =
    (status ≡ 8) × IsUnused disk_old disk_new input_old input_new × Printed output_old output_new memory_text

-- the words are outside the grammar, which was told, unless memory for them was wanting
abbrev pub HasRefusedWords : {D : Type 0} → (status : ℕ) → (disk_old disk_new : D) → SourceState → SourceState → SinkState → SinkState → Type 0
HasRefusedWords status disk_old disk_new input_old input_new output_old output_new =
    ((status ≡ 2) × IsUnused disk_old disk_new input_old input_new × Printed output_old output_new usage_text)
    ⊎ HasNoWords status disk_old disk_new input_old input_new output_old output_new

-- an image that is made is accepted, and one as given that passes each test
abbrev pub IsAccepted : (made : Option Geometry) → (given : Option (List ℕ)) → Type 0
IsAccepted (Some g) given = Unit {0}
IsAccepted None given = (c : List ℕ) × (given ≡ Some c) × (refusal c ≡ None)

-- where the task reads the input, this has no bad line
abbrev pub IsGoodInput : Task → (rest : Option (List ℕ)) → Type 0
IsGoodInput (New g) rest = (all : List ℕ) × (rest ≡ Some all) × ((script all).bad ≡ None)
IsGoodInput Run rest = (all : List ℕ) × (rest ≡ Some all) × ((script all).bad ≡ None)
IsGoodInput Par rest = (all : List ℕ) × (rest ≡ Some all) × ((script all).bad ≡ None)
IsGoodInput Recover rest = Unit {0}
IsGoodInput (Bench seed count) rest = Unit {0}
