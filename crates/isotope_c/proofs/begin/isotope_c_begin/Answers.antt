use Rattle.std.proofs.Common.{◌≡◌, ◌∙◌, sym, subst, Option, SFits, rules, w32, of_z, to_z}
use Rattle.iso_machine.specs.Answering.{Always}
use Rattle.iso_model.specs.{declared.access.Mode.Mode}
use Rattle.script_model.specs.{declared.script.Op.TheVariants.Begin, Step.step}
use Rattle.isotope_c.specs.{Exports.Steps, Told.begun}
use Rattle.isotope_c.proofs.{Serving.stepped, Telling.begun_told}
use Rattle.isotope_c.proofs.begin.isotope_c_begin.Goals as goal

pub returns-clause-begins : goal.returns-clause-begins
returns-clause-begins c m named =
    let fits : SFits w32 c.begun.result = search rules in
    let same : c.in-Some.mode ≡ m = cc (sym c.in-Some.is ∙ (c.mode_named.ensures ∙ named)) in
    let number = c.begin-answer.new.number in
    subst (λ (n : Option Mode). Steps c.args.slot.now c.put.new.slot Always (λ W. step W W.next (Begin n)) (λ W answer. (to_z w32 (of_z w32 c.begun.result), (c.begun.new.tx, c.begun.new.at)) ≡ begun W.next c.args.tx.now c.args.at.now answer)) same
    (stepped c.args.slot.now c.put.new.slot c.take_open-instance.ensures.there c.deref_mut.ensures.value c.in-Open.is c.put.ensures {given = λ W. step W W.next (Begin c.in-Some.mode)}
    c.begin-answer.ensures.did c.begin-answer.ensures.down
    (λ W stands. begun_told fits number W.next c.args.tx.now c.args.at.now c.begin-answer.result c.begun.ensures (λ n is. c.begin-answer.ensures.number W n stands is))
    (λ W down. begun_told fits number W.next c.args.tx.now c.args.at.now c.begin-answer.result c.begun.ensures (λ n is. absurd (cc (sym down ∙ is)))))
