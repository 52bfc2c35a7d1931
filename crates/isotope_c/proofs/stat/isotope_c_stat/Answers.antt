use Rattle.std.proofs.Common.{◌≡◌, ◌∙◌, sym, refl, subst, IsSome, Ok, SFits, rules, w32, to_z-of_z}
use Rattle.queued_disk.specs.{declared.queued.QueuedDisk.QueuedDisk, Queued.state_of}
use Rattle.script_model.specs.Step.{numbers, step}
use Rattle.script_model.specs.declared.script.Op.TheVariants as op
use Rattle.device_desk.specs.Device.{Answered, Device, StandsAt, state_at}
use Rattle.isotope_c.specs.Exports.{Says}
use Rattle.isotope_c.proofs.{Serving.{held_is, served}, Telling.replied}
use Rattle.isotope_c.proofs.stat.isotope_c_stat.Goals as goal

pub returns-clause-serves : goal.returns-clause-serves
returns-clause-serves c =
    let fits : SFits w32 c.code_of.result = search rules in
    served c.args.slot.now c.put.new.slot c.take_open-instance.ensures.there c.deref_mut.ensures.value c.in-Open.is c.put.ensures fits 0 op.Stat Says c.stat-answer.ensures.did c.stat-answer.ensures.down c.code_of.ensures

pub returns-clause-counts : goal.returns-clause-counts
unfolding numbers step
returns-clause-counts c d W was stands done =
    let fits : SFits w32 c.code_of.result = search rules in
    let same : c.in-Open.desk ≡ d = held_is c.args.slot.now c.put.new.slot c.take_open-instance.ensures.there c.deref_mut.ensures.value c.in-Open.is c.put.ensures was in
    let stood : StandsAt state_of c.in-Open.desk W = subst (λ (e : Device QueuedDisk). StandsAt state_of e W) (sym same) stands in
    let did : Answered state_of c.in-Open.desk c.stat-answer.new.self W 0 op.Stat c.stat-answer.result = c.stat-answer.ensures.did W stood in
    let told : IsSome (state_at state_of c.in-Open.desk).contents = refl in
    let reply : c.stat-answer.result ≡ Ok (numbers W) =
    replied {P = IsSome (state_at state_of c.in-Open.desk).contents} c.stat-answer.result {r = numbers W} (sym c.code_of.ensures ∙ (sym (to_z-of_z fits) ∙ done)) told did.reply in
    c.count.ensures W reply (c.geometry-image.ensures W stood) (c.oldest-first.ensures.oldest W stood)
