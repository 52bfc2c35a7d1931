use Rattle.std.proofs.Common.{◌≡◌, Result, SFits, rules, w32, ℤ}
use Rattle.script_model.specs.{declared.script.Reply.Reply, declared.stop.Stop.Stop}
use Rattle.script_model.specs.declared.script.Op.TheVariants as op
use Rattle.isotope_c.specs.Told.{found}
use Rattle.isotope_c.proofs.Serving.{served}
use Rattle.isotope_c.proofs.files.isotope_c_file_read.Goals as goal

pub returns : goal.returns
returns c =
    let fits : SFits w32 c.hand_over.result = search rules in
    served c.args.slot.now c.put.new.slot c.take_open-instance.ensures.there c.deref_mut.ensures.value c.in-Open.is c.put.ensures fits c.args.tx (op.FileRead c.args.name.now c.args.off c.args.most) (λ (s : ℤ) (answer : Result Reply Stop). (s, (c.hand_over.new.into, c.hand_over.new.len)) ≡ found c.args.into.now c.args.len.now answer) c.file_read-answer.ensures.did c.file_read-answer.ensures.down c.hand_over.ensures
