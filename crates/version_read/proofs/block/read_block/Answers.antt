-- One version more, and the base.
use Rattle.version_read.proofs.{Words.{◌≡◌, ◌∙◌, sym, refl, ◌-◌, ℕ, length, get_or, arith, subst, replicate, all_passed, failed_behind, joined_unwritten, starts_unwritten, no_version, IsFilled}, Walks.{done_more, done_none, none_seen, right_more, walked, walked_whole}, Wanted.{all_seen, unseen, unseen_all, unseen_marked}, block.read_block.Goals.{then-loop-left-test+else-wanted-gt0, else-loop-left-test}}
use Rattle.version_read.proofs.block.read_block.Goals as goal

pub loop-left-init : goal.loop-left-init
loop-left-init g c = record {
  inside = omega arith;
  wanted = sym (unseen_all (replicate 64 0) 0 (length c.args.into.now) (λ p from to. none_seen 64 p));
  done = done_none c.args.versions.now (replicate 64 0) (none_seen 64);
  right = λ d is p below seen. (let no = none_seen 64 p in cc);
  faults = refl;
  unwritten = starts_unwritten (g.met.D.Disk.lawful c.args.disk.now);
}

pub overflow_sub-wanted : goal.overflow_sub-wanted
overflow_sub-wanted g c =
    let was = c.loop-left.invariant in
    let lies = c.requires.versions (c.loop-left.left - 1) (omega (arith, was.inside, c.loop-left-test.true)) in
    let left = unseen_marked c.loop-left.seen c.fill.new.seen (length c.args.into.now) (get_or c.args.versions.now (c.loop-left.left - 1) no_version).off (get_or c.args.versions.now (c.loop-left.left - 1) no_version).len lies.fits
    (λ p below. c.in-Ok.ensures.marked p (omega (arith, below, c.requires.size))) in
    omega (arith, left, was.wanted, c.in-Ok.ensures.count)

pub loop-left-preserved : goal.loop-left-preserved
loop-left-preserved g c =
    let was = c.loop-left.invariant in
    let lies = c.requires.versions (c.loop-left.left - 1) (omega (arith, was.inside, c.loop-left-test.true)) in
    let left = unseen_marked c.loop-left.seen c.fill.new.seen (length c.args.into.now) (get_or c.args.versions.now (c.loop-left.left - 1) no_version).off (get_or c.args.versions.now (c.loop-left.left - 1) no_version).len lies.fits
    (λ p below. c.in-Ok.ensures.marked p (omega (arith, below, c.requires.size))) in
    record {
      inside = omega (arith, was.inside);
      wanted = omega (arith, left, was.wanted, c.in-Ok.ensures.count);
      done = done_more c.args.versions.now c.loop-left.left (c.loop-left.left - 1) c.loop-left.seen c.fill.new.seen was.inside c.loop-left-test.true refl was.done c.in-Ok.ensures.marked;
      right = λ d is. right_more c.args.versions.now c.loop-left.left (c.loop-left.left - 1) c.loop-left.seen c.fill.new.seen was.inside c.loop-left-test.true refl was.done c.in-Ok.ensures.marked
          d c.loop-left.into c.fill.new.into (omega (arith, c.requires.size, c.loop-left.auto.into)) c.fill.auto.into (was.right d is) (c.in-Ok.ensures.bytes d (was.unwritten.same_contents ∙ is));
      faults = c.in-Ok.ensures.cause.passed ∙ was.faults;
      unwritten = joined_unwritten (g.met.D.Disk.lawful c.loop-left.disk) was.unwritten c.fill.ensures.unwritten;
    }

pub returns-in_default-fill-clause-bytes : goal.returns-in_default-fill-clause-bytes
returns-in_default-fill-clause-bytes g c =
    let was = c.loop-left.invariant in
    let end : c.loop-left.left ≡ 0 = elim c.loop-left-test.branch [
      | then-loop-left-test+else-wanted-gt0 w ↦ absurd (omega (arith, w.if-wanted-gt0.false, c.if-wanted-gt0-2.true))
      | else-loop-left-test w ↦ omega (arith, w.loop-left-test.false)
    ] in
    λ d is. walked d c.loop-left.into c.fill-then-wanted-gt0-2.new.into c.args.base c.loop-left.left c.args.versions.now c.loop-left.seen end (omega (arith, c.requires.size, c.loop-left.auto.into)) c.fill-then-wanted-gt0-2.auto.into
    was.done (was.right d is) (subst (λ (n : ℕ). IsFilled d c.args.base 0 n c.loop-left.seen c.loop-left.into c.fill-then-wanted-gt0-2.new.into) (sym c.loop-left.auto.into) (c.in_default-fill.ensures.bytes d (was.unwritten.same_contents ∙ is)))

pub returns-else-wanted-gt0-2-clause-bytes : goal.returns-else-wanted-gt0-2-clause-bytes
returns-else-wanted-gt0-2-clause-bytes g c =
    let was = c.loop-left.invariant in
    let none : unseen c.loop-left.seen 0 (length c.args.into.now) ≡ 0 = omega (arith, was.wanted, c.if-wanted-gt0-2.false) in
    λ d is. walked_whole d c.loop-left.into c.args.base c.loop-left.left c.args.versions.now c.loop-left.seen (was.right d is)
    (λ p below. all_seen c.loop-left.seen 0 (length c.args.into.now) p none (omega arith) (omega (arith, below, c.loop-left.auto.into)))

pub returns-in_default-clause-unwritten : goal.returns-in_default-clause-unwritten
returns-in_default-clause-unwritten g c = joined_unwritten (g.met.D.Disk.lawful c.loop-left.disk) c.loop-left.invariant.unwritten c.fill.ensures.unwritten

pub returns-in_default-clause-cause : goal.returns-in_default-clause-cause
returns-in_default-clause-cause g c = failed_behind c.loop-left.invariant.faults c.in_default.ensures.cause

pub returns-in-Err-clause-unwritten : goal.returns-in-Err-clause-unwritten
returns-in-Err-clause-unwritten g c = joined_unwritten (g.met.D.Disk.lawful c.loop-left.disk) c.loop-left.invariant.unwritten c.fill-then-wanted-gt0-2.ensures.unwritten

pub returns-in-Err-clause-cause : goal.returns-in-Err-clause-cause
returns-in-Err-clause-cause g c = failed_behind c.loop-left.invariant.faults c.in-Err.ensures.cause

pub returns-in_default-fill-clause-unwritten : goal.returns-in_default-fill-clause-unwritten
returns-in_default-fill-clause-unwritten g c = joined_unwritten (g.met.D.Disk.lawful c.loop-left.disk) c.loop-left.invariant.unwritten c.fill-then-wanted-gt0-2.ensures.unwritten

pub returns-in_default-fill-clause-cause : goal.returns-in_default-fill-clause-cause
returns-in_default-fill-clause-cause g c = all_passed (c.in_default-fill.ensures.cause.passed ∙ c.loop-left.invariant.faults)

pub returns-else-wanted-gt0-2-clause-unwritten : goal.returns-else-wanted-gt0-2-clause-unwritten
returns-else-wanted-gt0-2-clause-unwritten g c = c.loop-left.invariant.unwritten

pub returns-else-wanted-gt0-2-clause-cause : goal.returns-else-wanted-gt0-2-clause-cause
returns-else-wanted-gt0-2-clause-cause g c = all_passed c.loop-left.invariant.faults
