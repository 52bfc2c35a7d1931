-- A piece that has a byte is the first one with a byte from there on.
use Rattle.mv_index.proofs.{Words.{arith, no_version}, Orders.{apart_at, ends_rise}}

pub returns-then-from-end : Rattle.mv_index.proofs.pieces.end_likely.Goals.returns-then-from-end
returns-then-from-end c = record {
  within = omega arith;
  below = λ k lt.
      let apart = apart_at 0 k c.likely_place-near.result no_version c.args.pieces.now c.requires lt c.if-near-pieces.true in
      omega (arith, apart, c.if-pieces-near.true);
  above = λ k le lt.
      let rise = ends_rise 0 c.args.pieces.now c.requires c.likely_place-near.result k no_version le lt in
      omega (arith, rise, c.if-from-end.true, c.end.ensures, c.from.ensures);
}
