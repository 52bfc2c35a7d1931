-- What a sink is at a moment, and what a put does to it.
use Rattle.std.specs.{Prelude.{◌≡◌, ◌≤◌, ◌<◌, ℕ, Bool, List, IsTrue, Option, length, take, nat_lt, ◌==◌, ◌&&◌, if◌then◌else◌, Result, Ok, Err}, Io.KnownBytes.append_known}
use Rattle.counts.specs.Count.{one_more}

-- a sink at a moment, as its callers see it
pub record SinkState : Type 0 where
  pub written : Option (List ℕ)  -- the bytes taken so far, where they are told
  pub faults : ℕ  -- how often the sink has failed, up to the last value of a u64
  pub refusals : ℕ  -- how many puts took nothing of a piece that is not empty, up to the last value of a u64
  pub is_broken : Bool  -- handing on has failed, so bytes that it took may never come out, and it takes nothing more

-- from old to new the sink took this text
abbrev pub Wrote : SinkState → SinkState → List ℕ → Type 0
Wrote old new text = new.written ≡ append_known old.written text

-- the sink took the first bytes of a text, and not all of it
pub record WroteFront (old new : SinkState) (text : List ℕ) : Type 0 where
  pub count : ℕ
  pub short : count < length text
  pub wrote : Wrote old new (take count text)

-- the count of refusals after a put: one more exactly where it took nothing of a piece that is not empty
abbrev pub refusals_after : {E : Type 0} → ℕ → List ℕ → Result ℕ E → ℕ
refusals_after before piece (Ok taken) = if nat_lt 0 (length piece) && taken == 0 then one_more before else before
refusals_after before piece (Err fault) = before

-- no count of the sink fell
pub record NoCountFell (old new : SinkState) : Type 0 where
  pub faults : old.faults ≤ new.faults
  pub refusals : old.refusals ≤ new.refusals

-- each count of the sink is what it was
pub record CountsStand (old new : SinkState) : Type 0 where
  pub faults : new.faults ≡ old.faults
  pub refusals : new.refusals ≡ old.refusals

-- handing on failed: what the sink took is what it took before, and it is broken
pub record Broke (old new : SinkState) : Type 0 where
  pub written : new.written ≡ old.written
  pub refusals : new.refusals ≡ old.refusals
  pub broken : IsTrue new.is_broken
