-- What the sink has of a text that was put to it.
use Rattle.std.specs.Prelude.{◌⊎◌, ℕ, List}
use Rattle.counts.specs.Count.{Rose}
use Rattle.iso_io.specs.Sink.{SinkState, CountsStand, Wrote, WroteFront}

-- the sink failed in the call, or it took nothing of a piece that is not empty
abbrev pub SinkFailed : SinkState → SinkState → Type 0
SinkFailed old new = Rose old.faults new.faults ⊎ Rose old.refusals new.refusals

-- the sink took this whole text, and no count of it rose
pub record WroteWhole (old new : SinkState) (text : List ℕ) : Type 0 where
  pub wrote : Wrote old new text
  pub counts : CountsStand old new

-- the sink failed in the call, and took a front of the text that is not all of it
pub record WasCut (old new : SinkState) (text : List ℕ) : Type 0 where
  pub failed : SinkFailed old new
  pub front : WroteFront old new text

-- the sink took this text, or, only where it failed in the call, a front of it
abbrev pub Printed : SinkState → SinkState → List ℕ → Type 0
Printed old new text = WroteWhole old new text ⊎ WasCut old new text
