use Rattle.std.proofs.Common.{◌≡◌, Result, SFits, rules, w32, ℤ}
use Rattle.script_model.specs.{declared.script.Reply.Reply, declared.stop.Stop.Stop}
use Rattle.script_model.specs.declared.script.Op.TheVariants as op
use Rattle.isotope_c.specs.Told.{shown}
use Rattle.isotope_c.proofs.Serving.{served}
use Rattle.isotope_c.proofs.accesses.isotope_c_read.Goals as goal

pub returns : goal.returns
returns c =
    let fits : SFits w32 c.show.result = search rules in
    served c.args.slot.now c.put.new.slot c.take_open-instance.ensures.there c.deref_mut.ensures.value c.in-Open.is c.put.ensures fits c.args.tx (op.Read c.args.block) (λ (s : ℤ) (answer : Result Reply Stop). (s, c.show.new.into) ≡ shown c.args.into.now answer) c.read-answer.ensures.did c.read-answer.ensures.down c.show.ensures
