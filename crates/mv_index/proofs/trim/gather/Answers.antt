-- A version is looked at.
use Rattle.mv_index.proofs.{Words.{refl, sym, arith}, Gathers.{gathered_kept, gathered_passed}}

pub loop-left-preserved-then-look : Rattle.mv_index.proofs.trim.gather.Goals.loop-left-preserved-then-look
loop-left-preserved-then-look c =
    gathered_kept c.args.versions.now c.loop-left.versions c.loop-left.seen c.look.new.seen c.args.number c.loop-left.left c.loop-left.kept _ c.loop-left.invariant c.loop-left-test.true refl
    (λ i below. omega (arith, c.requires.within i below, c.loop-left.auto.seen)) c.look.auto.seen c.look.ensures.marked _ refl (sym c.if-look.ensures.shows)

pub loop-left-preserved : Rattle.mv_index.proofs.trim.gather.Goals.loop-left-preserved
loop-left-preserved c =
    gathered_passed c.args.versions.now c.loop-left.versions c.loop-left.seen c.look.new.seen c.args.number c.loop-left.left c.loop-left.kept _ c.loop-left.invariant c.loop-left-test.true refl
    (λ i below. omega (arith, c.requires.within i below, c.loop-left.auto.seen)) c.look.auto.seen c.look.ensures.marked (sym c.if-look.ensures.shows)
