-- The pieces before one begin before it, and those after the next one behind that.
use Rattle.mv_index.proofs.{Words.{◌+◌, arith, no_version}, Orders.offs_rise}

pub returns-then-byte-pieces : Rattle.mv_index.proofs.pieces.begin_behind.Goals.returns-then-byte-pieces
returns-then-byte-pieces c = record {
  within = omega arith;
  below = λ k lt.
      let rise = offs_rise 0 c.args.pieces.now c.requires.order k c.args.near no_version (omega (arith, lt)) (omega (arith, c.if-pieces-near-gt1.true)) in
      omega (arith, rise, c.if-pieces-near.true);
  above = λ k le lt.
      let rise = offs_rise 0 c.args.pieces.now c.requires.order (c.args.near + 1) k no_version le lt in
      omega (arith, rise, c.if-byte-pieces.true);
}
