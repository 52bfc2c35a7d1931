-- The versions are laid over the base, or have the whole range.
use Rattle.version_read.proofs.{Words.{◌∙◌, ℕ, arith, refl, subst, on_ok_weaker, length-contents, failed_behind, joined_unwritten}, Layings.{laid_over, laid_whole}}
use Rattle.counts.specs.Count.{HasCause}
use Rattle.version_read.proofs.block.read_pieces.Goals as goal

pub returns-then-is_whole-clause-bytes : goal.returns-then-is_whole-clause-bytes
returns-then-is_whole-clause-bytes g c =
    let whole = c.is_whole.ensures c.if-is_whole.true in
    on_ok_weaker c.lay_over.result (λ laid d is. laid_whole c.args.from c.args.to d c.args.base c.args.versions.now c.args.into.now c.lay_over.new.into whole.0 whole.1 whole.2 (laid d is)) c.lay_over.ensures.bytes

pub returns-then-is_whole-clause-unwritten : goal.returns-then-is_whole-clause-unwritten
returns-then-is_whole-clause-unwritten g c = c.lay_over.ensures.unwritten

pub returns-then-is_whole-clause-cause : goal.returns-then-is_whole-clause-cause
returns-then-is_whole-clause-cause g c = c.lay_over.ensures.cause

pub returns-in-Err-clause-unwritten : goal.returns-in-Err-clause-unwritten
returns-in-Err-clause-unwritten g c = c.read_part.ensures.unwritten

pub returns-in-Err-clause-cause : goal.returns-in-Err-clause-cause
returns-in-Err-clause-cause g c = failed_behind refl c.in-Err.ensures.cause

pub returns-clause-bytes : goal.returns-clause-bytes
returns-clause-bytes g c = on_ok_weaker c.lay_over-2.result (λ laid d is.
    let long = length-contents (g.met.D.Disk.lawful c.args.disk.now) d is in
    laid_over c.args.from c.args.to d c.args.versions.now c.args.base c.args.into.now c.read_part.new.into c.lay_over-2.new.into c.requires.order c.requires.range (omega (arith, long, c.requires.base))
    (c.in_default.ensures.bytes d is) (laid d (c.read_part.ensures.unwritten.same_contents ∙ is))) c.lay_over-2.ensures.bytes

pub returns-clause-unwritten : goal.returns-clause-unwritten
returns-clause-unwritten g c = joined_unwritten (g.met.D.Disk.lawful c.read_part.new.disk) c.read_part.ensures.unwritten c.lay_over-2.ensures.unwritten

pub returns-clause-cause : goal.returns-clause-cause
returns-clause-cause g c = subst (λ (n : ℕ). HasCause n (g.D.Disk.state c.lay_over-2.new.disk).faults c.lay_over-2.result) c.in_default.ensures.cause.passed c.lay_over-2.ensures.cause
