-- What contracts see of the script of a bench and of the digest of its replies.
use Rattle.std.specs.Prelude.{ℕ, Bool, false, List, Some}
use Rattle.iso_io.specs.{Source.SourceState, Sink.SinkState}

pub record DrawnState : Type 0 where
  pub left : List ℕ  -- the text that is left
  pub is_ended : Bool  -- the last call that had room gave nothing

-- as a source it never fails
abbrev pub drawn_state : DrawnState → SourceState
drawn_state s = record { rest = Some s.left; is_ended = s.is_ended; faults = 0 }

pub record DigestedState : Type 0 where
  pub text : List ℕ  -- the bytes taken so far
  pub faults : ℕ  -- how many calls failed, up to the last value of a u64

-- as a sink it takes all of each piece
abbrev pub digested_state : DigestedState → SinkState
digested_state s = record { written = Some s.text; faults = s.faults; refusals = 0; is_broken = false }
