-- A step to the right or to the left, and the end.
use Rattle.mv_index.proofs.{Words.{arith, refl}, Bounds.cut, Halves.{searched_left, searched_right}}

pub loop-low-preserved-then-versions-mid : Rattle.mv_index.proofs.search.count_upto.Goals.loop-low-preserved-then-versions-mid
loop-low-preserved-then-versions-mid g c = (
  searched_right c.args.versions.now c.args.at _ c.loop-low.low c.loop-low.high _ _ c.requires c.loop-low.invariant.0 c.loop-low-test.true refl (omega (arith, c.tick.ensures, c.loop-low.invariant.1)) c.if-versions-mid.true,
  omega (arith, c.tick.ensures, c.loop-low.invariant.1),
)

pub loop-low-preserved : Rattle.mv_index.proofs.search.count_upto.Goals.loop-low-preserved
loop-low-preserved g c = (
  searched_left c.args.versions.now c.args.at _ c.loop-low.low c.loop-low.high _ _ c.requires c.loop-low.invariant.0 c.loop-low-test.true refl (omega (arith, c.tick.ensures, c.loop-low.invariant.1)) c.if-versions-mid.false,
  omega (arith, c.tick.ensures, c.loop-low.invariant.1),
)

pub returns-clause-exact : Rattle.mv_index.proofs.search.count_upto.Goals.returns-clause-exact
returns-clause-exact g c = grind (arith, cut)
