use Rattle.std.proofs.Common.{◌≡◌, Result, SFits, rules, w32, ℤ}
use Rattle.script_model.specs.{declared.script.Reply.Reply, declared.stop.Stop.Stop}
use Rattle.script_model.specs.declared.script.Op.TheVariants as op
use Rattle.isotope_c.specs.Told.{code, ended_of}
use Rattle.isotope_c.proofs.Serving.{served}
use Rattle.isotope_c.proofs.ending.isotope_c_end.Goals as goal

pub returns : goal.returns
returns c =
    let fits : SFits w32 c.code_of.result = search rules in
    served c.args.slot.now c.put.new.slot c.take_open-instance.ensures.there c.deref_mut.ensures.value c.in-Open.is c.put.ensures fits c.args.tx op.End (λ (s : ℤ) (answer : Result Reply Stop). (s ≡ code answer) × (c.ended_of.result ≡ ended_of answer)) c.end-answer.ensures.did c.end-answer.ensures.down (c.code_of.ensures, c.ended_of.ensures)
