use Rattle.std.proofs.Common.{◌≡◌, Result, SFits, rules, w32, ℤ}
use Rattle.script_model.specs.{declared.script.Reply.Reply, declared.stop.Stop.Stop}
use Rattle.script_model.specs.declared.script.Op.TheVariants as op
use Rattle.isotope_c.specs.Told.{found}
use Rattle.isotope_c.proofs.Serving.{served}
use Rattle.isotope_c.proofs.stores.isotope_c_hash_get.Goals as goal

pub returns : goal.returns
returns c =
    let fits : SFits w32 c.hand_over.result = search rules in
    served c.args.slot.now c.put.new.slot c.take_open-instance.ensures.there c.deref_mut.ensures.value c.in-Open.is c.put.ensures fits c.args.tx (op.HashGet c.args.key.now) (λ (s : ℤ) (answer : Result Reply Stop). (s, (c.hand_over.new.into, c.hand_over.new.len)) ≡ found c.args.into.now c.args.len.now answer) c.hash_get-answer.ensures.did c.hash_get-answer.ensures.down c.hand_over.ensures
