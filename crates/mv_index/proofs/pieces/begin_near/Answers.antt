-- The pieces before one begin before it, and those after it do not.
use Rattle.mv_index.proofs.{Words.{arith, no_version}, Orders.{apart_at, offs_rise, some_at}}

pub returns-then-pieces-near : Rattle.mv_index.proofs.pieces.begin_near.Goals.returns-then-pieces-near
returns-then-pieces-near c = record {
  within = omega arith;
  below = λ k lt.
      let near = c.likely_place-near.result in
      let apart = apart_at 0 k near no_version c.args.pieces.now c.requires lt c.if-near-pieces.true in
      let some = (some_at 0 k no_version c.args.pieces.now c.requires (omega (arith, lt, c.if-near-pieces.true))).1 in
      omega (arith, apart, some, c.if-pieces-near.true);
  above = λ k le lt.
      let rise = offs_rise 0 c.args.pieces.now c.requires c.likely_place-near.result k no_version le lt in
      omega (arith, rise, c.if-pieces-near.true);
}
