-- What was put of the replies of a run.
use Rattle.std.specs.Prelude.{◌≡◌, ◌⊎◌, ℕ, ◌<◌, List, [], ◌∷◌, ◌++◌, length, take}
use Rattle.iso_io.specs.Sink.{SinkState, Wrote}
use Rattle.iso_model.specs.{World.World, Worlds.IsWorld}
use Rattle.script_model.specs.{declared.script.Line.Line, declared.script.Reply.Reply, Operations.SaysCommit, Step.step, Text.reply_line}
use Rattle.script_runner.specs.{declared.run_end.RunEnd.RunEnd, declared.run_end.RunEnd.TheVariants.Output, Told.{IsPlain, SameButShown}}

-- the sink took the text, and then a front of the next one that is not all of it
pub record WroteBehind (old new : SinkState) (text next : List ℕ) : Type 0 where
  pub count : ℕ
  pub short : count < length next
  pub wrote : Wrote old new (text ++ take count next)

-- what the sink took of the replies: the whole text of those to the lines answered; where it ended the run, a front of
-- one more reply after it, or nothing more where no line ran after those
abbrev pub Replied : RunEnd → SinkState → SinkState → (text next : List ℕ) → Type 0
Replied Output old new text next = WroteBehind old new text next ⊎ ((next ≡ []) × Wrote old new text)
Replied end old new text next = Wrote old new text

-- Whatever the disk tells, a line was answered so from the world W, and led to the world V: as the model does it, but for the
-- bytes that the reply shows. A call of a store may be answered otherwise, and leaves the history as it is.
pub record IsReplyTo (W : World) (line : Line) (reply : Reply) (V : World) : Type 0 where
  pub plain : IsPlain line.op → SameButShown reply (step W line.client line.op).0 × (V ≡ (step W line.client line.op).1)
  pub history : V.history ≡ (step W line.client line.op).1.history
  pub geometry : V.geometry ≡ (step W line.client line.op).1.geometry
  pub sound : IsWorld V

-- the lines were answered so, one after the other
abbrev pub AreRepliesTo : World → List (ℕ × Line) → List Reply → World → Type 0
AreRepliesTo W [] [] V = V ≡ W
AreRepliesTo W [] (reply ∷ replies) V = ⊥
AreRepliesTo W (line ∷ lines) [] V = ⊥
AreRepliesTo W (line ∷ lines) (reply ∷ replies) V = (U : World) × IsReplyTo W line.1 reply U × AreRepliesTo U lines replies V

-- the text of replies to lines
abbrev pub text_of : List (ℕ × Line) → List Reply → List ℕ
text_of [] replies = []
text_of (line ∷ lines) [] = []
text_of (line ∷ lines) (reply ∷ replies) = reply_line line.1.client reply ++ text_of lines replies

-- replies that are the same, one by one, but for the bytes that they show
abbrev pub AreSameButShown : (xs ys : List Reply) → Type 0
AreSameButShown [] [] = Unit {0}
AreSameButShown [] (y ∷ ys) = ⊥
AreSameButShown (x ∷ xs) [] = ⊥
AreSameButShown (x ∷ xs) (y ∷ ys) = SameButShown x y × AreSameButShown xs ys

-- a line that calls no store was answered that commit n was made, to an end or to a label of a group
abbrev pub TellsCommit : List (ℕ × Line) → List Reply → (n : ℕ) → Type 0
TellsCommit [] replies n = ⊥
TellsCommit (line ∷ lines) [] n = ⊥
TellsCommit (line ∷ lines) (reply ∷ replies) n = (IsPlain line.1.op × SaysCommit reply n) ⊎ TellsCommit lines replies n

-- what holds where the sink ended the run, and so a reply was made to each line that ran
abbrev pub IfCut : RunEnd → Type 0 → Type 0
IfCut Output P = P
IfCut end P = Unit {0}

-- The sink took the text of such replies to the lines.
pub record PutReplies (old new : SinkState) (W : World) (lines : List (ℕ × Line)) (V : World) : Type 0 where
  pub given : List Reply
  pub are : AreRepliesTo W lines given V
  pub put : Wrote old new (text_of lines given)

-- The sink took the text of such replies to the lines `done`, and a front of the one to the line `next`, if one ran, where it ended the run.
pub record PutRepliesBy (end : RunEnd) (old new : SinkState) (W : World) (done next : List (ℕ × Line)) (reached final : World) : Type 0 where
  pub given : List Reply
  pub last : List Reply
  pub are : AreRepliesTo W done given reached
  pub last_is : IfCut end (AreRepliesTo reached next last final)
  pub put : Replied end old new (text_of done given) (text_of next last)
