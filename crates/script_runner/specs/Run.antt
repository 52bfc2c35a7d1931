-- What a run over the lines of a script has done.
use Rattle.std.specs.Prelude.{◌≡◌, ◌⊎◌, ℕ, ◌≤◌, false, List, [], ◌∷◌, ◌++◌, Some, None, Contains, IfSome, IsTrue, length}
use Rattle.iso_disk.specs.Disk.{DiskState, LeavesOnly}
use Rattle.iso_io.specs.{Source.{SourceState, MetEnd, Took}, Sink.SinkState}
use Rattle.iso_model.specs.{declared.limits.TheConstants.MAX_INPUT, History.last, World.World, Worlds.LeadsTo, Between.ShowsBetween}
use Rattle.script_model.specs.{declared.script.Line.Line, Script.{Script, after, replies, script}, Step.step, Operations.{AreLines, SaysCommit}}
use Rattle.script_runner.specs.{declared.run_end.RunEnd.RunEnd, declared.run_end.RunEnd.TheVariants.{Done, BadLine as Bad, Disk, Input, Memory}, Counts.{DiskCount, SinkCounts, SourceCount}, Replies.{PutRepliesBy, Replied}, Told.{ArePlain, IfKnown, IfTold}}

-- the lines `done` and then `next`, of which there is one at most, are the first of these lines
pub record AreFirst (lines done next : List (ℕ × Line)) : Type 0 where
  pub later : List (ℕ × Line)
  pub all : lines ≡ done ++ next ++ later
  pub one : length next ≤ 1

-- which lines of a script a run has answered that ended so: all of them, or those before the bad one, or some first
-- ones, after which it may have run one more
abbrev pub AreLinesOf : RunEnd → Script → (done next : List (ℕ × Line)) → Type 0
AreLinesOf Done S done next = (S ≡ record { lines = done; bad = None }) × (next ≡ [])
AreLinesOf (Bad line) S done next = (S ≡ record { lines = done; bad = Some line }) × (next ≡ [])
AreLinesOf Input S done next = AreFirst S.lines done next × (next ≡ [])
AreLinesOf end S done next = AreFirst S.lines done next

-- no line feed is among these bytes
abbrev pub HasNoFeed : List ℕ → Type 0
HasNoFeed bytes = ¬ Contains bytes 10

-- no bytes, or bytes that end in a line feed
abbrev pub EndsInFeed : List ℕ → Type 0
EndsInFeed bytes = (bytes ≡ []) ⊎ ((text : List ℕ) × (bytes ≡ text ++ 10 ∷ []))

-- the lines are all those that end in a line feed among these bytes, and none of them is bad
pub record AreWholeLines (bytes : List ℕ) (lines : List (ℕ × Line)) : Type 0 where
  pub front : List ℕ
  pub rest : List ℕ
  pub split : bytes ≡ front ++ rest
  pub whole : EndsInFeed front
  pub no_feed : HasNoFeed rest
  pub says : script front ≡ record { lines = lines; bad = None }

-- what holds of the machine, unless its step may have stopped
abbrev pub IfUp : RunEnd → Type 0 → Type 0
IfUp Disk P = Unit {0}
IfUp Memory P = Unit {0}
IfUp end P = P

-- a reply of the world W to one of these lines says that commit n was made, to an end or to a label of a group
abbrev pub Acknowledges : World → List (ℕ × Line) → (n : ℕ) → Type 0
Acknowledges W [] n = ⊥
Acknowledges W (line ∷ lines) n =
    SaysCommit (step W line.1.client line.1.op).0 n ⊎ Acknowledges (step W line.1.client line.1.op).1 lines n

-- The world that these lines led to from the world W. It is sound, and its history begins with that of W. It is the model's, where
-- the disk tells its bytes or no line calls a store; else the accesses of such calls are not known, and it is the one that they made.
pub record IsBehind (d : DiskState) (W : World) (lines : List (ℕ × Line)) (V : World) : Type 0 where
  pub known : IfKnown d (ArePlain lines) (V ≡ after W lines)
  pub leads : LeadsTo W V

-- each image that a crash leaves now shows the history of this world at its last commit
abbrev pub AllShow : DiskState → World → Type 0
AllShow d V = (c : List ℕ) → d.now c → ShowsBetween V V c

-- After the lines that led from the world W to this one nothing was made: each image shows its last commit, and at each moment of
-- the run one from the last of W on to it.
pub record MadeNothing (disk_old disk_new : DiskState) (W reached : World) : Type 0 where
  pub exit : AllShow disk_new reached
  pub moments : LeavesOnly disk_old disk_new (ShowsBetween W reached)

-- From the world W the lines `done` were answered: the sink took the whole reply to each. Behind them the machine may
-- have run the lines `next`.
pub record Answered (stands : World → Type 0) (disk_old disk_new : DiskState) (output_old output_new : SinkState) (W : World) (end : RunEnd)
    (done next : List (ℕ × Line)) : Type 0 where
  pub good : AreLines (done ++ next)
  -- the reply theorem: the sink took the replies of the world and these lines, where the disk tells what a read shows
  pub replies : IfTold disk_old (Replied end output_old output_new (replies W done) (replies (after W done) next))
  -- the order theorem: the world after these lines is sound, so each of its commits is isolated, and its history begins with the one before
  pub order : LeadsTo W (after W done)
  pub order_next : LeadsTo (after W done) (after W (done ++ next))
  pub acknowledged : (n : ℕ) → Acknowledges W done n → n ≤ last (after W done).history
  -- the worlds that the lines answered, and all lines, led to, which is one where no line may have run after those
  pub reached : World
  pub final : World
  pub reached_is : IsBehind disk_old W done reached
  pub final_is : IsBehind disk_old W (done ++ next) final
  pub final_on : LeadsTo reached final
  pub whole_is : next ≡ [] → final ≡ reached
  -- the reply theorem on any disk, as a real file, which tells nothing: the sink took the replies of the model but for the bytes shown
  pub on_any_disk : PutRepliesBy end output_old output_new W done next reached final
  -- the crash theorem: each image that a crash leaves now shows the history at a commit from the last one of the lines answered
  -- on, and so at none before one that was acknowledged; and each that a crash might have left in the run shows it at a commit
  -- from the last one before the run on
  pub exit : (c : List ℕ) → disk_new.now c → ShowsBetween reached final c
  pub moments : LeavesOnly disk_old disk_new (ShowsBetween W final)
  -- the machine answers as the world after these lines
  pub world : IfUp end (stands final)
  -- where memory was wanting the line after those answered made nothing, or was done as a whole, and its text alone is missing
  pub unmade : end ≡ Memory → MadeNothing disk_old disk_new W reached ⊎ AllShow disk_new final
  -- no fault was passed over
  pub disk : DiskCount end disk_old.faults disk_new.faults
  pub output : SinkCounts end output_old output_new
  -- where the sink broke, which it does where it cannot hand on, no line ran after those answered
  pub at_once : output_old.is_broken ≡ false → IsTrue output_new.is_broken → next ≡ []

-- What a run from the world W has done that ended so.
pub record HasRun (stands : World → Type 0) (disk_old disk_new : DiskState) (input_old input_new : SourceState) (output_old output_new : SinkState)
    (W : World) (end : RunEnd) : Type 0 where
  -- the bytes taken, and that they are the whole input where all was done
  pub bytes : List ℕ
  pub took : Took input_old input_new bytes
  pub limit : length bytes ≤ MAX_INPUT
  pub ended : end ≡ Done → MetEnd input_old input_new bytes
  -- the lines answered, and the one that may have run after them: lines of the bytes taken, and of the whole input where it is told
  pub done : List (ℕ × Line)
  pub next : List (ℕ × Line)
  pub lines : AreLinesOf end (script bytes) done next
  pub told : IfSome input_old.rest (λ all. AreLinesOf end (script all) done next)
  pub whole : end ≡ Input → AreWholeLines bytes done
  pub answered : Answered stands disk_old disk_new output_old output_new W end done next
  pub input : SourceCount end input_old.faults input_new.faults
