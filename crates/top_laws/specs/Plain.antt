-- What the promise of a call means to a reader who knows images and texts alone.
use Rattle.std.specs.{Prelude.{◌≡◌, ◌⊎◌, ℕ, ◌-◌, ◌*◌, ◌≤◌, List, ◌++◌, Option, None, Some}, List.AllByRecursion}
use Rattle.bench_script.specs.Rounds.{one_places}
use Rattle.iso_disk.specs.Disk.{DiskState, IsBoundTo, LeavesOnly, SinceBind}
use Rattle.iso_io.specs.{Sink.{SinkState, Wrote}, Source.{SourceState, Took}}
use Rattle.iso_model.specs.{declared.access.Geometry.Geometry, History.{History, last}, Image.IsImage, Isolation.IsIsolated, World.{World, fresh}, Worlds.Extends}
use Rattle.iso_image.specs.{declared.open_error.OpenError.OpenError, Refusal.{opened, refusal}}
use Rattle.iso_shared.specs.{declared.entry.Entry.Entry, Plain.CommitsUpTo, States.Start}
use Rattle.store_scripts.specs.{ThreadsInOrder.{AreInOrder, CommitsKeep}, Trace.{Event, IsTrace}}
use Rattle.par_script.specs.{Output.{IsFront, IsOutput}, Told.Told, declared.part.Part.Part}
use Rattle.script_model.specs.{declared.script.BadLine.BadLine, declared.script.Line.Line, declared.script.Reply.Reply, Bench.{answers_to, recover_output}, Script.{replies, script}}
use Rattle.script_runner.specs.{Replies.{AreSameButShown, text_of}, Run.AreWholeLines}
use Rattle.store_scripts.specs.Stores.{SecondStore}
use Rattle.iso_top.specs.{Prints.{Printed, SinkFailed, WasCut}, Starts.OpensTo, Texts.{bad_line_text, bench_text_of, error_text, input_fault_text}}

-- the script has no bad line, and what was put is the replies of this world to its lines
abbrev pub PrintsReplies : World → (script_text : List ℕ) → SinkState → SinkState → Type 0
PrintsReplies W all old new = ((script all).bad ≡ None) × Wrote old new (replies W (script all).lines)

-- the image holds a history, and what was put is the replies of the world that it opens to
pub record PrintsRepliesOf (image all : List ℕ) (old new : SinkState) : Type 0 where
  pub geometry : Geometry
  pub generation : ℕ
  pub history : History
  pub holds : IsImage image geometry generation history
  pub prints : PrintsReplies (fresh geometry generation history) all old new

-- the script has no bad line, and what was put is the replies of this world to its lines, but for the bytes that they show
pub record PrintsButShown (W : World) (all : List ℕ) (old new : SinkState) : Type 0 where
  pub whole : (script all).bad ≡ None
  pub given : List Reply
  pub same : AreSameButShown given (answers_to W (script all).lines)
  pub put : Wrote old new (text_of (script all).lines given)

-- it is so from a world that the image as given opens to, where the disk tells it
abbrev pub PrintsButShownOf : (given : Option (List ℕ)) → (script_text : List ℕ) → SinkState → SinkState → Type 0
PrintsButShownOf given all old new = (W : World) × OpensTo given W × PrintsButShown W all old new

-- the image holds a history, and what was put is the line of its numbers and of its last array's digest
pub record PrintsDigestOf (image : List ℕ) (old new : SinkState) : Type 0 where
  pub geometry : Geometry
  pub generation : ℕ
  pub history : History
  pub holds : IsImage image geometry generation history
  pub prints : Wrote old new (recover_output history)

-- What was put is the line of a bench: `count` rounds, the conflicts, which are as many as the rounds that draw one place twice, and the
-- commits, which are twice the rounds less these.
pub record PrintsCounts (seed count : ℕ) (old new : SinkState) : Type 0 where
  pub digest : List ℕ
  pub put : Wrote old new (bench_text_of count (2 * count - one_places count seed) (one_places count seed) digest)

-- each test accepts the image, and it opens to a history whose last commit is n or a later one
pub record OpensFrom (n : ℕ) (image : List ℕ) : Type 0 where
  pub geometry : Geometry
  pub generation : ℕ
  pub history : History
  pub holds : IsImage image geometry generation history
  pub accepted : refusal image ≡ None
  pub opens : opened image ≡ Some (record { geometry = geometry; generation = generation; history = history })
  pub last : n ≤ last history

-- the image holds a history, and this holds of the world that it opens to
pub record OfItsWorld (image : List ℕ) (P : World → Type 0) : Type 0 where
  pub geometry : Geometry
  pub generation : ℕ
  pub history : History
  pub holds : IsImage image geometry generation history
  pub is : P (fresh geometry generation history)

-- The image fails a test, and the line that names the test was put. The input was not read, and no image that a crash might have left
-- since the bind is another one.
pub record NamesRefusal (name image : List ℕ) (disk : DiskState) (input_old input_new : SourceState) (old new : SinkState) : Type 0 where
  pub test : OpenError
  pub fails : refusal image ≡ Some test
  pub prints : Printed old new (error_text test)
  pub unread : input_new ≡ input_old
  pub bound : IsBoundTo name disk
  pub kept : SinceBind disk (λ c. c ≡ image)

-- the script has a bad line, and what was put is this text and then the line that names it; or, only where the sink failed, a front of that
pub record NamesBadLine (before script_text : List ℕ) (old new : SinkState) : Type 0 where
  pub bad : BadLine
  pub is : (script script_text).bad ≡ Some bad
  pub prints : Printed old new (before ++ bad_line_text bad)

-- What was put is the replies of this world to some first lines of the script and then this line; or, only where the sink failed, a
-- front of that.
pub record PrintsFirst (W : World) (script_text line : List ℕ) (old new : SinkState) : Type 0 where
  pub lines : List (ℕ × Line)
  pub later : List (ℕ × Line)
  pub first : (script script_text).lines ≡ lines ++ later
  pub prints : Printed old new (replies W lines ++ line)

-- The source gave these bytes, and then it failed. What was put is the replies of this world to the whole lines among them, none of
-- which is bad, and then the line that tells of it; or, only where the sink failed too, a front of that.
pub record PrintsWholeLines (W : World) (input_old input_new : SourceState) (old new : SinkState) : Type 0 where
  pub bytes : List ℕ
  pub took : Took input_old input_new bytes
  pub lines : List (ℕ × Line)
  pub whole : AreWholeLines bytes lines
  pub prints : Printed old new (replies W lines ++ input_fault_text)

-- the sink failed, and what it took is a front of the replies of this world to the lines of the script
pub record PrintsFront (W : World) (script_text : List ℕ) (old new : SinkState) : Type 0 where
  pub failed : SinkFailed old new
  pub front : List ℕ
  pub behind : List ℕ
  pub split : replies W (script script_text).lines ≡ front ++ behind
  pub put : Wrote old new front

-- What was put is the whole text of what the clients were told by this list, and then this line; or, only where the sink failed, a
-- front of that.
pub record PrintsClients (A : Start) (lines : List (ℕ × Line)) (entries : List Entry) (line : List ℕ) (old new : SinkState) : Type 0 where
  pub parts : List Part
  pub told : Told A lines parts entries
  pub text : List ℕ
  pub whole : IsOutput parts text
  pub prints : Printed old new (text ++ line)

-- What was put is the text of what the clients were told by this list, or, where no memory was left for it, first lines of that text,
-- and then this line; or, only where the sink failed, a front of that.
pub record PrintsSomeOfClients (A : Start) (lines : List (ℕ × Line)) (entries : List Entry) (line : List ℕ) (old new : SinkState) : Type 0 where
  pub parts : List Part
  pub told : Told A lines parts entries
  pub text : List ℕ
  pub front : IsOutput parts text ⊎ IsFront parts text
  pub prints : Printed old new (text ++ line)

-- the sink failed, and what it took is a front of the text of what the clients were told by this list
pub record PrintsClientsFront (A : Start) (lines : List (ℕ × Line)) (entries : List Entry) (old new : SinkState) : Type 0 where
  pub parts : List Part
  pub told : Told A lines parts entries
  pub text : List ℕ
  pub whole : IsOutput parts text
  pub cut : WasCut old new text

-- each test accepts the image, and it opens to a history that has each commit that one of these entries tells of, by an end or in a group
pub record HasCommitsOf (entries : List Entry) (image : List ℕ) : Type 0 where
  pub at : ℕ
  pub opens : OpensFrom at image
  pub each : AllByRecursion (CommitsUpTo at) entries

-- From this moment on, by the clock of the disk, each image that a crash might have left up to now opens to a history that has each
-- commit that one of these entries tells of.
abbrev pub CommitsStayFrom : {D : Type 0} → (state : D → DiskState) → (moment : ℕ) → List Entry → (now : D) → Type 0
CommitsStayFrom {D} state moment entries now = (then : D) × ((state then).clock ≡ moment) × LeavesOnly (state then) (state now) (HasCommitsOf entries)

-- the history of the one world begins with that of the other, and each of its commits is serial or snapshot at its number, by its own mode
pub record GoesOnIsolated (W V : World) : Type 0 where
  pub begins : Extends W.history V.history
  pub isolated : IsIsolated V.geometry V.history

-- The lines of all clients have one order, each client's in theirs. Where each commit along it keeps to the stores, the calls that lines
-- tell of a commit answer as one thread's, on the maps directly before it, and those of a transaction that wrote nothing by the maps at
-- its begin, and so those of one that is live once a line of its client was answered.
pub record AnswerInOneOrder (S : SecondStore) (A : Start) (lines : List (ℕ × Line)) (parts : List Part) (E : List Entry) : Type 0 where
  pub order : List Event
  pub has_all : IsTrace A lines parts E order
  pub answers : CommitsKeep S A.world.geometry order → AreInOrder S A E order
