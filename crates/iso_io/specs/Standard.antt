-- What contracts see of a source over a reader and a sink over a writer. As a source and a sink they tell no bytes,
-- since a reader and a writer may begin to tell theirs at any call.
use Rattle.std.specs.Prelude.{ℕ, Bool, None}
use Rattle.iso_io.specs.{Source.SourceState, Sink.SinkState}

pub record StdSourceState (T : Type 0) : Type 0 where
  pub reader : T
  pub faults : ℕ  -- how many reads failed
  pub is_ended : Bool  -- the last read that had room gave nothing

abbrev pub source_state : {T : Type 0} → StdSourceState T → SourceState
source_state s = record { rest = None; is_ended = s.is_ended; faults = s.faults }

pub record StdSinkState (T : Type 0) : Type 0 where
  pub writer : T
  pub is_broken : Bool  -- a flush failed
  pub faults : ℕ  -- how many writes and flushes failed
  pub refusals : ℕ  -- how many writes took nothing of a piece that is not empty

abbrev pub sink_state : {T : Type 0} → StdSinkState T → SinkState
sink_state s = record { written = None; faults = s.faults; refusals = s.refusals; is_broken = s.is_broken }
