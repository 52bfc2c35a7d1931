-- What a source is at a moment, and what a take does to it.
use Rattle.std.specs.{Prelude.{◌≡◌, ◌≤◌, ◌↔◌, ℕ, Bool, List, [], Option, length, nat_lt, ◌==◌, if◌then◌else◌, Result, Ok, Err, IfSome, IsTrue}, Io.KnownBytes.{IsAtEnd, prepend_known}}

-- a source at a moment, as its callers see it
pub record SourceState : Type 0 where
  pub rest : Option (List ℕ)  -- the bytes that are left, where they are told
  pub is_ended : Bool  -- the last take that had room gave nothing
  pub faults : ℕ  -- how often the source has failed, up to the last value of a u64

-- from old to new the source gave these bytes
abbrev pub Took : SourceState → SourceState → List ℕ → Type 0
Took old new bytes = old.rest ≡ prepend_known bytes new.rest

-- the source gave this many bytes: none exactly where none is left
abbrev pub GivesUpToEnd : SourceState → ℕ → Type 0
GivesUpToEnd old given = IfSome old.rest (λ left. (given ≡ 0) ↔ (left ≡ []))

-- whether the end was met, after a take: one that has room meets it exactly where it gives nothing;
-- one that has no room or fails changes nothing
abbrev pub ended_after : {E : Type 0} → Bool → List ℕ → Result ℕ E → Bool
ended_after before into (Ok given) = if nat_lt 0 (length into) then given == 0 else before
ended_after before into (Err fault) = before

-- from old to new the source met its end, and these bytes are all that were left
pub record MetEnd (old new : SourceState) (bytes : List ℕ) : Type 0 where
  pub ended : IsTrue new.is_ended
  pub whole : IfSome old.rest (λ left. left ≡ bytes)
  pub nothing_left : IsAtEnd new.rest

-- from old to new the source gave some bytes, and no more than `limit`
pub record TookAtMost (old new : SourceState) (limit : ℕ) : Type 0 where
  pub bytes : List ℕ
  pub few : length bytes ≤ limit
  pub took : Took old new bytes
