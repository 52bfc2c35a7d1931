use Rattle.std.proofs.Common.{Result, SFits, rules, w32, ℤ}
use Rattle.script_model.specs.{declared.script.Reply.Reply, declared.stop.Stop.Stop}
use Rattle.script_model.specs.declared.script.Op.TheVariants as op
use Rattle.isotope_c.specs.Told.{IsScanned}
use Rattle.isotope_c.proofs.Serving.{served}
use Rattle.isotope_c.proofs.stores.isotope_c_tree_scan.Goals as goal

pub returns : goal.returns
returns c =
    let fits : SFits w32 c.hand_over_pairs.result = search rules in
    served c.args.slot.now c.put.new.slot c.take_open-instance.ensures.there c.deref_mut.ensures.value c.in-Open.is c.put.ensures fits c.args.tx (op.TreeScan c.args.from.now c.args.to.now c.args.most) (λ (s : ℤ) (answer : Result Reply Stop). IsScanned c.args.into.now c.args.len.now answer (s, (c.hand_over_pairs.new.into, c.hand_over_pairs.new.len))) c.tree_scan-answer.ensures.did c.tree_scan-answer.ensures.down c.hand_over_pairs.ensures
