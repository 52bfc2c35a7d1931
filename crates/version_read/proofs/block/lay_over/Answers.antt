-- The next version is laid over what is there.
use Rattle.version_read.proofs.{Words.{◌∙◌, arith, take_all, all_passed, failed_behind, joined_unwritten}, Layings.laid_more}
use Rattle.version_read.proofs.block.lay_over.Goals as goal

pub loop-version-preserved : goal.loop-version-preserved
loop-version-preserved g c =
    let was = c.loop-version.invariant in
    record {
      laid = λ d is. laid_more c.args.from c.args.to d c.args.versions.now c.loop-version.version-index c.args.into.now c.loop-version.into c.lay_one.new.into c.loop-version-test.true
          (was.laid d is) (c.in_default.ensures.bytes d (was.unwritten.same_contents ∙ is));
      faults = c.in_default.ensures.cause.passed ∙ was.faults;
      unwritten = joined_unwritten (g.met.D.Disk.lawful c.loop-version.disk) was.unwritten c.lay_one.ensures.unwritten;
    }

pub returns-clause-bytes : goal.returns-clause-bytes
returns-clause-bytes g c = search (arith, take_all)

pub returns-in-Err-clause-unwritten : goal.returns-in-Err-clause-unwritten
returns-in-Err-clause-unwritten g c = joined_unwritten (g.met.D.Disk.lawful c.loop-version.disk) c.loop-version.invariant.unwritten c.lay_one.ensures.unwritten

pub returns-in-Err-clause-cause : goal.returns-in-Err-clause-cause
returns-in-Err-clause-cause g c = failed_behind c.loop-version.invariant.faults c.in-Err.ensures.cause

pub returns-clause-unwritten : goal.returns-clause-unwritten
returns-clause-unwritten g c = c.loop-version.invariant.unwritten

pub returns-clause-cause : goal.returns-clause-cause
returns-clause-cause g c = all_passed c.loop-version.invariant.faults
