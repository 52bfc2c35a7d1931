-- What clients that ran concurrently on an image have done.
use Rattle.std.specs.Prelude.{◌≡◌, ◌⊎◌, ℕ, List, [], ◌++◌, Option, Some, None}
use Rattle.counts.specs.Count.{Rose}
use Rattle.iso_core.specs.Standing.{ShowsWith}
use Rattle.iso_model.specs.{Between.ShowsLast, declared.access.Commit.Commit, World.World}
use Rattle.iso_disk.specs.Disk.{DiskState, IsBoundTo, SinceBind}
use Rattle.iso_io.specs.{Sink.SinkState, Source.SourceState}
use Rattle.script_model.specs.declared.script.Line.{Line}
use Rattle.iso_shared.specs.{declared.entry.Entry.Entry, Ports.IsIsolatedAt, Standing.{HaveEnded, ShowsSince, start_at}, States.{Start, State, state_at}}
use Rattle.par_lines.specs.Ends.{status_of}
use Rattle.par_script.specs.{Output.{IsFront, IsOutput}, Told.Told, declared.part.Part.Part}
use Rattle.store_scripts.specs.{EntriesInOrder.{FilesAnswerAt, StoresAnswerAt}, ThreadsInOrder.LinesTellCalls}
use Rattle.script_runner.specs.{declared.lines.ScriptError.ScriptError, Read.{HasNoLines, HasRead}}
use Rattle.iso_top.specs.{Prints.{Printed, WasCut, WroteWhole}, Starts.{GoesOnTelling, IsUntouched, OpensTo, WasBoundOnce}, Texts.{disk_fault_text, memory_text, script_error_text}}

-- The image was opened, and no line of the script was run, for this reason: it has a bad line, its source failed, or memory was
-- wanting. Nothing was written to the image, and the line that tells the reason was put.
pub record HasRunNone (name : List ℕ) (e : ScriptError) (disk_old disk_new : DiskState) (input_old input_new : SourceState) (output_old output_new : SinkState) : Type 0 where
  pub world : World
  pub opens : OpensTo (disk_old.named name) world
  pub bound : IsBoundTo name disk_new
  pub once : WasBoundOnce disk_old disk_new
  pub unwritten : SinceBind disk_new (IsUntouched None (disk_old.named name))
  pub why : HasNoLines input_old input_new e
  pub printed : Printed output_old output_new (script_error_text e)
  pub passed : disk_new.faults ≡ disk_old.faults

-- What was put of a run of clients, by the status: the whole text with 0, and a front of it, where the sink failed, with 7; with 5
-- and 8 the whole text and the line that tells of the fault, or, without memory for the text, first lines of it and that line, or,
-- only where the sink failed, a front of that.
abbrev pub PrintedClients : (status : ℕ) → List Part → SinkState → SinkState → Type 0
PrintedClients status parts old new =
    (text : List ℕ)
    × (((status ≡ 0) × (status_of parts ≡ 0) × IsOutput parts text × WroteWhole old new text)
    ⊎ ((status ≡ 7) × (status_of parts ≡ 0) × IsOutput parts text × WasCut old new text)
    ⊎ ((status ≡ 5) × (status_of parts ≡ 5) × IsOutput parts text × Printed old new (text ++ disk_fault_text))
    ⊎ ((status ≡ 8) × (((status_of parts ≡ 8) × IsOutput parts text) ⊎ IsFront parts text) × Printed old new (text ++ memory_text)))

-- The image shows the history at its last commit; or, once a fault set the device down, that or that with the lost commits after
-- it: the one commit of an end, or all commits of a group, and never some of them.
abbrev pub ShowsBehind : (lost : Option (List Commit)) → World → (image : List ℕ) → Type 0
ShowsBehind None W image = ShowsLast W image
ShowsBehind (Some lost) W image = ShowsWith W lost image

abbrev pub ShowsState : State → (image : List ℕ) → Type 0
ShowsState S image = ShowsBehind S.lost S.world image

-- What each client was told by the one list of entries, and what was put of it; or memory was wanting before the first line was
-- run, and there is no entry.
abbrev pub WereRun : Start → List (ℕ × Line) → List Entry → (status : ℕ) → SinkState → SinkState → Type 0
WereRun A lines entries status old new =
    ((parts : List Part) × Told A lines parts entries × PrintedClients status parts old new) ⊎ ((entries ≡ []) × (status ≡ 8) × Printed old new memory_text)

-- The clients of the script were run: from the world that the image as given opens to, on its disk as it was when the list of
-- entries began.
pub record HasRunClients {D : Type 0} (state : D → DiskState) (name : List ℕ) (status : ℕ) (disk_old disk_new : D) (input_old input_new : SourceState)
    (output_old output_new : SinkState) : Type 0 where
  pub world : World
  pub opens : OpensTo ((state disk_old).named name) world
  pub start : D
  pub tells : GoesOnTelling name (state disk_old) (state start)
  pub faults : (state start).faults ≡ (state disk_old).faults
  -- the input was read to its end: its lines, none of which is bad
  pub lines : List (ℕ × Line)
  pub read : HasRead input_old input_new lines
  pub entries : List Entry
  pub ran : WereRun (start_at world (state start)) lines entries status output_old output_new
  -- the order theorem: each commit of the list's history is serial or snapshot at its number, by its mode
  pub isolated : IsIsolatedAt (start_at world (state start)) entries
  -- the store theorem of the list: where the stores begin well formed and each commit is by their calls, these answer in order; of
  -- the hash store and the tree store, and of the hash store and the files
  pub stores : StoresAnswerAt (start_at world (state start)) entries
  pub files : FilesAnswerAt (start_at world (state start)) entries
  -- the same by what the clients were told: the calls that their lines tell of a transaction, whoever had it, answer in order
  pub calls : (parts : List Part) → Told (start_at world (state start)) lines parts entries → LinesTellCalls (start_at world (state start)) lines parts entries
  -- the crash theorem: each image that a crash leaves once the threads have returned shows the history that the list leads to; and
  -- each that a crash might have left since the bind, also while the threads ran, shows it at a commit from the last one of the
  -- image as given on
  pub exit : (image : List ℕ) → (state disk_new).now image → ShowsState (state_at (start_at world (state start)) entries) image
  pub since : SinceBind (state disk_new) (ShowsSince (start_at world (state start)) entries)
  -- What was told is there: each turn of the list, in which a client was answered, has ended at its moment. Up to that moment no image
  -- that a crash might have left shows a commit after those of the list up to the turn, and from that moment on, until now, each one
  -- shows all of these. Each caller of the shared device knows the moments of the turns that it has seen as soon as it has seen them.
  pub moments : List ℕ
  pub turns : HaveEnded state (start_at world (state start)) (state start) (state disk_new) entries moments
  pub bound : IsBoundTo name (state disk_new)
  pub once : WasBoundOnce (state disk_old) (state disk_new)
  -- without an entry nothing was written: a crash since the bind left the image as given
  pub unwritten : entries ≡ [] → SinceBind (state disk_new) (IsUntouched None ((state disk_old).named name))
  pub failed : status ≡ 5 → Rose (state disk_old).faults (state disk_new).faults
