-- A piece that ends at a byte is the last one without a byte from there on.
use Rattle.mv_index.proofs.{Words.{arith, no_version}, Orders.{apart_at, ends_rise, some_at}}

pub returns-then-end-from : Rattle.mv_index.proofs.pieces.end_near.Goals.returns-then-end-from
returns-then-end-from c = record {
  within = omega arith;
  below = λ k lt.
      let rise = ends_rise 0 c.args.pieces.now c.requires k c.args.near no_version (omega (arith, lt)) c.if-near-pieces.true in
      omega (arith, rise, c.if-end-from.true, c.end.ensures, c.from.ensures);
  above = λ k le lt.
      let apart = apart_at 0 c.args.near k no_version c.args.pieces.now c.requires (omega (arith, le)) lt in
      let some = (some_at 0 k no_version c.args.pieces.now c.requires lt).1 in
      omega (arith, apart, some, c.if-end-from.true, c.end.ensures, c.from.ensures);
}
