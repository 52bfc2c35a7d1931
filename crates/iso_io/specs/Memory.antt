-- What contracts see of a source and a sink in memory.
use Rattle.std.specs.Prelude.{ℕ, Bool, List, Some}
use Rattle.iso_io.specs.{Source.SourceState, Sink.SinkState}

-- a source in memory
pub record MemSourceState : Type 0 where
  pub left : List ℕ  -- the bytes that are left
  pub piece : ℕ  -- the most bytes that a call gives
  pub failing : List ℕ  -- the numbers, from 1, of the calls that are to fail
  pub calls : ℕ  -- how many calls there were
  pub faults : ℕ  -- how many of them failed
  pub is_ended : Bool  -- the last call that had room gave nothing

abbrev pub source_state : MemSourceState → SourceState
source_state s = record { rest = Some s.left; is_ended = s.is_ended; faults = s.faults }

-- a sink in memory
pub record MemSinkState : Type 0 where
  pub taken : List ℕ  -- the bytes taken so far
  pub piece : ℕ  -- the most bytes that a call takes
  pub failing : List ℕ  -- the numbers, from 1, of the calls that are to fail
  pub calls : ℕ  -- how many calls there were
  pub faults : ℕ  -- how many of them failed
  pub starved : ℕ  -- how many of those found no memory
  pub refusals : ℕ  -- how many calls took nothing of a piece that is not empty
  pub handed : ℕ  -- how often it was to hand on
  pub breaking : ℕ  -- the time, from 1, at which handing on is to fail
  pub is_broken : Bool  -- it has failed

abbrev pub sink_state : MemSinkState → SinkState
sink_state s = record { written = Some s.taken; faults = s.faults; refusals = s.refusals; is_broken = s.is_broken }
