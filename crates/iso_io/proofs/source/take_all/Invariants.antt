use Rattle.std.proofs.Common.{◌≡◌, ◌-◌, ◌≤◌, vec_len}
use Rattle.iso_io.specs.Source.{Took}

-- the source gave the bytes so far, and no count rose
abbrev pub invariant-loop-bytes : Rattle.iso_io.proofs.source.take_all.Given.invariant-loop-bytes
invariant-loop-bytes g l = record {
  in_limit : vec_len l.bytes ≤ l.limit;
  room : vec_len l.piece ≡ 65536;
  took : Took (g.S.Source.state l.fn.source) (g.S.Source.state l.source) l.bytes.items;
  faults : (g.S.Source.state l.source).faults ≡ (g.S.Source.state l.fn.source).faults;
}

abbrev pub decreases-loop-bytes : Rattle.iso_io.proofs.source.take_all.Given.decreases-loop-bytes
decreases-loop-bytes g l = l.limit - vec_len l.bytes
