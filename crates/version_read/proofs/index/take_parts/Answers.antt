-- One part more.
use Rattle.version_read.proofs.{Words.{◌+◌, arith, sym, subst, AreAtMost}, Additions.{first_fits, first_rises, taken_all, taken_more}}
use Rattle.version_read.proofs.index.take_parts.Goals as goal

pub overflow_add-at-in-loop-part : goal.overflow_add-at-in-loop-part
overflow_add-at-in-loop-part c = omega (arith, first_fits c.in-Some.ensures.steps c.loop-part.invariant.2, c.requires.place)

pub add-requires-clause-rising : goal.add-requires-clause-rising
add-requires-clause-rising c =
    subst (AreAtMost c.args.number) (sym (c.reserve.ensures.same c.in-Some.part.block)) (first_rises c.in-Some.ensures.steps c.loop-part.invariant.2 c.requires.rising)

pub add-requires-clause-place : goal.add-requires-clause-place
add-requires-clause-place c = omega (arith, first_fits c.in-Some.ensures.steps c.loop-part.invariant.2, c.requires.place)

pub overflow_add-place : goal.overflow_add-place
overflow_add-place c = omega (arith, first_fits c.in-Some.ensures.steps c.loop-part.invariant.2, c.requires.place)

pub loop-part-preserved : goal.loop-part-preserved
loop-part-preserved c =
    let made = c.reserve.ensures in
    (tt, tt, taken_more c.in-Some.ensures.steps c.loop-part.invariant.2 c.reserve.new.self c.add.new.self (c.loop-part.at + 8 + c.from.result) made.blocks made.same made.count made.others made.no_less c.add.ensures.added (omega (arith, c.from.ensures)))

pub returns : goal.returns
returns c = taken_all c.in-None.ensures.steps.0 c.loop-part.invariant.2
