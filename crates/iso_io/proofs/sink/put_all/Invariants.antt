use Rattle.std.proofs.Common.{◌≡◌, ◌-◌, ◌≤◌, length, take}
use Rattle.iso_io.specs.Sink.{CountsStand, Wrote}

-- the sink has taken the front of the piece up to `at`, no count rose, and it is as whole as it was
abbrev pub invariant-loop-at : Rattle.iso_io.proofs.sink.put_all.Given.invariant-loop-at
invariant-loop-at g l = record {
  in_piece : l.at ≤ length l.bytes;
  wrote : Wrote (g.K.Sink.state l.fn.sink) (g.K.Sink.state l.sink) (take l.at l.bytes);
  counts : CountsStand (g.K.Sink.state l.fn.sink) (g.K.Sink.state l.sink);
  whole : (g.K.Sink.state l.sink).is_broken ≡ (g.K.Sink.state l.fn.sink).is_broken;
}

abbrev pub decreases-loop-at : Rattle.iso_io.proofs.sink.put_all.Given.decreases-loop-at
decreases-loop-at g l = length l.bytes - l.at
