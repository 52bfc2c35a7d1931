-- The store theorem of the lines of a script, as one word.
use Rattle.std.specs.Prelude.{◌≡◌, ℕ, ◌-◌, IsFalse, IsTrue, List, ◌∷◌, ◌++◌, Some}
use Rattle.script_model.specs.{declared.script.Line.Line, declared.script.Op.TheVariants.End, declared.script.Reply.TheVariants.Committed, Script.after, Step.{array_of, step}}
use Rattle.iso_model.specs.{Effect.has_write, History.{array_at, last}, World.{Live, World, attached}}
use Rattle.store_laws.specs.Both.{BothWellFormed, IsByBoth}
use Rattle.store_scripts.specs.{Kept.{BeginsWell, ToldByMap, ToldInOrder}, Stores.{SecondStore, image_hash, second_store, the_files, the_tree}, Told.{CommitsKeep, IsEndedAs, no_notes, told_after}}

-- From the world W on, the store calls of each commit of these lines, as their replies tell them, answer as one thread's calls on
-- the maps directly before it and end in those directly after it, whether an end made the commit or a group; those of a transaction
-- that is live after a front of them, and keeps to the stores, answer so from the maps at its begin to those that it is shown; and
-- those of one that wrote nothing answer by the maps at its begin.
pub record AreCallsInOrder (S : SecondStore) (W : World) (lines : List (ℕ × Line)) : Type 0 where
  -- the stores are well formed at the last commit, so that a later run begins well
  pub well : let V = after W lines in BothWellFormed (image_hash V.geometry) (second_store S V.geometry) (array_at V.history (last V.history))
  pub by_calls : let V = after W lines in IsByBoth (image_hash V.geometry) (second_store S V.geometry) V.geometry V.history (last W.history)
  pub commits : (before later : List (ℕ × Line)) (line : ℕ × Line) (k : ℕ) (t : Live) → lines ≡ before ++ line ∷ later
      → let V = after W before in let H = (after W lines).history in line.1.op ≡ End → attached V line.1.client ≡ Some t → (step V line.1.client End).0 ≡ Committed k
      → ToldInOrder S V.geometry (told_after S W before t.number) (array_at H (k - 1)) (array_at H k)
  pub grouped : (before later : List (ℕ × Line)) (line : ℕ × Line) (k : ℕ) (t : Live) → lines ≡ before ++ line ∷ later
      → let V = after W before in let H = (after W lines).history in IsEndedAs V line.1.op t k
      → ToldInOrder S V.geometry (told_after S W before t.number) (array_at H (k - 1)) (array_at H k)
  pub live : (before later : List (ℕ × Line)) (client : ℕ) (t : Live) → lines ≡ before ++ later
      → let V = after W before in attached V client ≡ Some t → IsTrue (told_after S W before t.number).kept
      → ToldInOrder S V.geometry (told_after S W before t.number) (array_at V.history t.begin) (array_of V t)
  pub read_only : (before later : List (ℕ × Line)) (client : ℕ) (t : Live) → lines ≡ before ++ later
      → let V = after W before in attached V client ≡ Some t → IsFalse (has_write t.accesses)
      → ToldByMap S V.geometry (told_after S W before t.number) (array_at V.history t.begin)

-- it is so where the stores begin well and each commit keeps to them
abbrev pub AnswersWith : SecondStore → World → List (ℕ × Line) → Type 0
AnswersWith S W lines = BeginsWell S W → CommitsKeep S W (no_notes S) lines → AreCallsInOrder S W lines

-- of the hash store and the tree store
abbrev pub StoresAnswer : World → List (ℕ × Line) → Type 0
StoresAnswer W lines = AnswersWith the_tree W lines

-- of the hash store and the files, where file calls alone write the tree store
abbrev pub FilesAnswer : World → List (ℕ × Line) → Type 0
FilesAnswer W lines = AnswersWith the_files W lines
