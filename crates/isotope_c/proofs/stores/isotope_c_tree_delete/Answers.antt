use Rattle.std.proofs.Common.{SFits, rules, w32}
use Rattle.script_model.specs.declared.script.Op.TheVariants as op
use Rattle.isotope_c.specs.Exports.{Says}
use Rattle.isotope_c.proofs.Serving.{served}
use Rattle.isotope_c.proofs.stores.isotope_c_tree_delete.Goals as goal

pub returns : goal.returns
returns c =
    let fits : SFits w32 c.code_of.result = search rules in
    served c.args.slot.now c.put.new.slot c.take_open-instance.ensures.there c.deref_mut.ensures.value c.in-Open.is c.put.ensures fits c.args.tx (op.TreeDelete c.args.key.now) Says c.tree_delete-answer.ensures.did c.tree_delete-answer.ensures.down c.code_of.ensures
