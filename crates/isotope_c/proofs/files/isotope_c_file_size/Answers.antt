use Rattle.std.proofs.Common.{◌≡◌, Result, SFits, rules, w32, ℤ}
use Rattle.script_model.specs.{declared.script.Reply.Reply, declared.stop.Stop.Stop}
use Rattle.isotope_c.specs.Told.{size_told}
use Rattle.isotope_c.proofs.Serving.{size_served}
use Rattle.isotope_c.proofs.files.isotope_c_file_size.Goals as goal

pub returns : goal.returns
returns c =
    let fits : SFits w32 c.tell_size.result = search rules in
    size_served c.args.slot.now c.put.new.slot c.take_open-instance.ensures.there c.deref_mut.ensures.value c.in-Open.is c.put.ensures fits c.args.tx c.args.name.now (λ (s : ℤ) (answer : Result Reply Stop). (s, c.tell_size.new.size) ≡ size_told c.args.size.now answer) c.file_size-answer.ensures.did c.file_size-answer.ensures.down c.tell_size.ensures
