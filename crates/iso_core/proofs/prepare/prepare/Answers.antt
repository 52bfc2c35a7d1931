use Rattle.iso_core.proofs.{Words.{arith, ◌∙◌}, Decides.touched_by, Prepares.{follows, keeps_on, parts_count, parts_lie, parts_order}}
use Rattle.iso_core.proofs.prepare.prepare.Goals as goal

pub reserve_parts-requires-clause-blocks : goal.reserve_parts-requires-clause-blocks
reserve_parts-requires-clause-blocks c =
    let h = c.requires in
    parts_lie c.args.kept.now h.world c.args.tx h.t c.args.work.now h.of h.may c.as_slice.result.now (c.as_slice.ensures.value ∙ h.spelled.parts)

pub reserve_parts-requires-clause-order : goal.reserve_parts-requires-clause-order
reserve_parts-requires-clause-order c =
    let h = c.requires in
    parts_order c.args.kept.now h.world c.args.tx h.t c.args.work.now h.of h.may c.as_slice.result.now (c.as_slice.ensures.value ∙ h.spelled.parts)

pub reserve_parts-requires-clause-few : goal.reserve_parts-requires-clause-few
reserve_parts-requires-clause-few c =
    let h = c.requires in
    parts_count c.args.kept.now h.world c.args.tx h.t c.args.work.now h.of h.may c.as_slice.result.now (c.as_slice.ensures.value ∙ h.spelled.parts)
    (follows c.args.kept.now h.world c.args.tx h.t c.args.work.now h.of h.may h.spelled c.requires.fits)

pub returns-clause-prepared : goal.returns-clause-prepared
returns-clause-prepared c h = grind (arith, touched_by)

pub returns-clause-rest : goal.returns-clause-rest
returns-clause-rest c = record { stays = λ W of. grind (arith, keeps_on); only = grind arith }
