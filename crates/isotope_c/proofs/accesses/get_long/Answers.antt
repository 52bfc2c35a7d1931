use Rattle.std.proofs.Common.{◌≡◌, Result, SFits, of_z, rules, subst, to_z, w32, ℕ, ℤ}
use Rattle.script_model.specs.{declared.script.Reply.Reply, declared.stop.Stop.Stop}
use Rattle.script_model.specs.declared.script.Op.TheVariants as op
use Rattle.isotope_c.specs.{Exports.Serves, Told.shown}
use Rattle.isotope_c.proofs.Serving.{served}
use Rattle.isotope_c.proofs.accesses.get_long.Goals as goal

pub returns : goal.returns
returns c =
    let fits : SFits w32 c.show.result = search rules in
    subst (λ (n : ℕ). Serves c.args.slot.now c.put.new.slot (to_z w32 (of_z w32 c.show.result)) c.args.tx (op.Get c.args.block c.args.off n) (λ answer. (to_z w32 (of_z w32 c.show.result), c.show.new.into) ≡ shown c.args.into.now answer)) c.length_asked-len.ensures
    (served c.args.slot.now c.put.new.slot c.take_open-instance.ensures.there c.deref_mut.ensures.value c.in-Open.is c.put.ensures fits c.args.tx (op.Get c.args.block c.args.off c.length_asked-len.result) (λ (s : ℤ) (answer : Result Reply Stop). (s, c.show.new.into) ≡ shown c.args.into.now answer) c.get-answer.ensures.did c.get-answer.ensures.down c.show.ensures)
