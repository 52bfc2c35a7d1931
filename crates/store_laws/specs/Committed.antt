-- What the laws say of commits and of live transactions: their calls answer in order, or by one map.
use Rattle.std.specs.Prelude.{◌≡◌, ℕ, ◌-◌, ◌<◌, ◌≤◌, IsFalse, Some, slice_get}
use Rattle.iso_model.specs.{declared.access.Commit.Commit, Array.Array, Conflict.IsSerialAt, Effect.{has_write, own}, History.{History, array_at}}
use Rattle.store_laws.specs.{Both.{AreMixed, BothByMap, BothInOrder, BothWellFormed, IsOfBoth, MixedParts, firsts}, Parts.{AnswerByMap, AnswerInOrder, AreMade, ArraysFrom, CommitsAfter, IsOfCalls, PartsOf, accesses_in}, Region.MapStore}

-- Commit k of a history is serial and has the accesses of these parts, made from the array at its begin on. The region is well formed
-- directly before it.
pub record IsCommitted (s : MapStore) (H : History) (k : ℕ) (parts : PartsOf s) : Type 0 where
  pub commit : Commit
  pub first : 0 < H.first
  pub since : H.first ≤ k
  pub is : slice_get H.commits (k - H.first) ≡ Some commit
  pub serial : IsSerialAt H k
  pub are : accesses_in parts ≡ commit.accesses
  pub made : AreMade s (array_at H commit.begin) parts
  pub well_formed : s.IsWellFormed (array_at H (k - 1))

-- the calls that commit k is made of answer in order from the map directly before it to the map directly after it
abbrev pub AnswersAt : (s : MapStore) → History → (k : ℕ) → Commit → Type 0
AnswersAt s H k c = (of : IsOfCalls s H c) → AnswerInOrder s of.parts (array_at H (k - 1)) (array_at H k)

-- the calls of each transaction that is shown this array answer in order from its map on
abbrev pub AnswersShown : (s : MapStore) → Array → Type 0
AnswersShown s A = (parts : PartsOf s) → AreMade s A parts → AnswerInOrder s parts A (own A (accesses_in parts))

-- the calls of each that writes nothing answer by its map alone
abbrev pub AnswersUnwritten : (s : MapStore) → Array → Type 0
AnswersUnwritten s A = (parts : PartsOf s) → AreMade s A parts → IsFalse (has_write (accesses_in parts)) → AnswerByMap s parts A

-- From n on the calls of a history answer so: those of each commit after n, and those of transactions that began at n or later. The
-- region is well formed there.
pub record AnswersFrom (s : MapStore) (H : History) (n : ℕ) : Type 0 where
  pub commits : CommitsAfter H n (AnswersAt s H)
  pub live : ArraysFrom H n (AnswersShown s)
  pub read_only : ArraysFrom H n (AnswersUnwritten s)
  pub well_formed : ArraysFrom H n s.IsWellFormed

-- ---- the same of parts that are calls of two stores

pub record AreCommitted (s t : MapStore) (H : History) (k : ℕ) (parts : MixedParts s t) : Type 0 where
  pub commit : Commit
  pub first : 0 < H.first
  pub since : H.first ≤ k
  pub is : slice_get H.commits (k - H.first) ≡ Some commit
  pub serial : IsSerialAt H k
  pub are : accesses_in (firsts parts) ≡ commit.accesses
  pub made : AreMixed s t (array_at H commit.begin) parts
  pub well_formed : BothWellFormed s t (array_at H (k - 1))

abbrev pub BothAnswerAt : (s t : MapStore) → History → (k : ℕ) → Commit → Type 0
BothAnswerAt s t H k c = (of : IsOfBoth s t H c) → BothInOrder s t of.parts (array_at H (k - 1)) (array_at H k)

abbrev pub BothAnswerShown : (s t : MapStore) → Array → Type 0
BothAnswerShown s t A = (parts : MixedParts s t) → AreMixed s t A parts → BothInOrder s t parts A (own A (accesses_in (firsts parts)))

abbrev pub BothAnswerUnwritten : (s t : MapStore) → Array → Type 0
BothAnswerUnwritten s t A = (parts : MixedParts s t) → AreMixed s t A parts → IsFalse (has_write (accesses_in (firsts parts))) → BothByMap s t parts A

pub record BothAnswerFrom (s t : MapStore) (H : History) (n : ℕ) : Type 0 where
  pub commits : CommitsAfter H n (BothAnswerAt s t H)
  pub live : ArraysFrom H n (BothAnswerShown s t)
  pub read_only : ArraysFrom H n (BothAnswerUnwritten s t)
  pub well_formed : ArraysFrom H n (BothWellFormed s t)
