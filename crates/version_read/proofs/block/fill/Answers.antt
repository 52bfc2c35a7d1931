-- A stretch is read, and what was seen after it is passed.
use Rattle.version_read.proofs.{Words.{◌∙◌, sym, refl, ◌-◌, arith, subst, length-contents, all_passed, failed_behind, joined_unwritten, starts_unwritten, IsFilled}, Fills.{count_more, filled_more, filled_none, filled_passed}, Wanted.{unseen_le, unseen_none}}
use Rattle.version_read.proofs.block.fill.Goals as goal

pub loop-at-init : goal.loop-at-init
loop-at-init g c =
    let found = c.next_place-at.ensures in
    record {
      from = found.from;
      to = found.within;
      wanted = found.stops;
      filled = λ d is. filled_passed d c.args.place c.args.off c.args.seen.now c.args.into.now c.args.into.now c.args.off c.next_place-at.result (omega arith) found.from (filled_none d c.args.place c.args.off c.args.seen.now c.args.into.now) found.passed;
      count = sym (unseen_none c.args.seen.now c.args.off (c.next_place-at.result - c.args.off) (λ p from to. found.passed p from (omega (arith, to, found.from))));
      faults = refl;
      unwritten = starts_unwritten (g.met.D.Disk.lawful c.args.disk.now);
    }

pub overflow_add-count : goal.overflow_add-count
overflow_add-count g c = search (arith, unseen_le)

pub loop-at-preserved : goal.loop-at-preserved
loop-at-preserved g c =
    let was = c.loop-at.invariant in
    let ends = c.next_place-to.ensures in
    let found = c.next_place-at-in-loop-at.ensures in
    record {
      from = omega (arith, was.from, ends.from, found.from);
      to = found.within;
      wanted = found.stops;
      filled = λ d is.
          let long = length-contents (g.met.D.Disk.lawful c.args.disk.now) d is in
          filled_passed d c.args.place c.args.off c.args.seen.now c.args.into.now c.read_part.new.into c.next_place-to.result c.next_place-at-in-loop-at.result (omega (arith, was.from, ends.from)) found.from
          (subst (IsFilled d c.args.place c.args.off (c.next_place-to.result - c.args.off) c.args.seen.now c.args.into.now) (sym (c.in_default.ensures.bytes d (was.unwritten.same_contents ∙ is)))
          (filled_more d c.args.place c.args.off c.args.seen.now c.args.into.now c.loop-at.into c.loop-at.at c.next_place-to.result was.from ends.from (was.filled d is)
          (omega (arith, ends.within, c.requires.fits, c.loop-at.auto.into)) c.loop-at.auto.into (omega (arith, long, c.requires.inside, ends.within, was.from, ends.from)) ends.passed)) found.passed;
      count = count_more c.args.seen.now c.args.off c.loop-at.at c.next_place-to.result c.next_place-at-in-loop-at.result c.loop-at.count was.from ends.from found.from was.count ends.passed found.passed;
      faults = c.in_default.ensures.cause.passed ∙ was.faults;
      unwritten = joined_unwritten (g.met.D.Disk.lawful c.loop-at.disk) was.unwritten c.read_part.ensures.unwritten;
    }

pub returns-in-Err-clause-unwritten : goal.returns-in-Err-clause-unwritten
returns-in-Err-clause-unwritten g c = joined_unwritten (g.met.D.Disk.lawful c.loop-at.disk) c.loop-at.invariant.unwritten c.read_part.ensures.unwritten

pub returns-in-Err-clause-cause : goal.returns-in-Err-clause-cause
returns-in-Err-clause-cause g c = failed_behind c.loop-at.invariant.faults c.in-Err.ensures.cause

pub returns-clause-unwritten : goal.returns-clause-unwritten
returns-clause-unwritten g c = c.loop-at.invariant.unwritten

pub returns-clause-cause : goal.returns-clause-cause
returns-clause-cause g c = all_passed c.loop-at.invariant.faults
