use Rattle.std.proofs.Common.{◌≡◌, ◌∙◌, sym, ap, arith, length, Result, SFits, of_z, rules, subst, to_z, w32, ℕ, ℤ}
use Rattle.script_model.specs.{declared.script.Reply.Reply, declared.stop.Stop.Stop}
use Rattle.script_model.specs.declared.script.Op.TheVariants as op
use Rattle.iso_machine.specs.Accessing.{with_bytes}
use Rattle.isotope_c.specs.{Exports.Serves, Told.{length_asked, shown}}
use Rattle.isotope_c.proofs.{Serving.served, Telling.{all_asked, told_into}}
use Rattle.isotope_c.proofs.accesses.isotope_c_get.Goals as goal

pub returns : goal.returns
returns c =
    let fits : SFits w32 c.code_of.result = search rules in
    let n : length c.args.into.now ≡ length_asked c.args.into.now = all_asked c.args.into.now (omega (arith, c.if-into.false)) in
    subst (λ (n : ℕ). Serves c.args.slot.now c.put.new.slot (to_z w32 (of_z w32 c.code_of.result)) c.args.tx (op.Get c.args.block c.args.off n) (λ answer. (to_z w32 (of_z w32 c.code_of.result), c.get_into-answer.new.into) ≡ shown c.args.into.now answer)) n
    (served c.args.slot.now c.put.new.slot c.take_open-instance.ensures.there c.deref_mut.ensures.value c.in-Open.is c.put.ensures fits c.args.tx (op.Get c.args.block c.args.off (length c.args.into.now)) (λ (s : ℤ) (answer : Result Reply Stop). (s, c.get_into-answer.new.into) ≡ shown c.args.into.now answer) c.get_into-answer.ensures.did c.get_into-answer.ensures.down
    (ap (λ (s : ℤ). (s, c.get_into-answer.new.into)) c.code_of.ensures ∙ told_into c.get_into-answer.result c.args.into.now c.get_into-answer.new.into c.get_into-answer.ensures.filled))
