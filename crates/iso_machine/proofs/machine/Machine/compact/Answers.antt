use Rattle.iso_machine.proofs.{Words.{◌∙◌, inl, sym, ap, weakened, as_step, floor}, Quiet.{answered, answers_as, answers_by}, Switches.{compact_is, switch_refused, switched}}
use Rattle.script_model.specs.declared.script.Reply.TheVariants as reply
use Rattle.iso_model.specs.declared.core_reply.CoreReply.TheVariants as core

pub returns-in-Ok : Rattle.iso_machine.proofs.machine.Machine.compact.Goals.returns-in-Ok
returns-in-Ok g c W of =
    let is = c.in-Ok.ensures.switched W of.core_of in
    answers_as (sym (compact_is W 1 ∙ ap as_step (is.1 (core.Compacted (floor W)))))
    (answered (ap reply.Compacted is.0) c.in-Ok.ensures.told (switched W.geometry.form of is.2) (weakened (c.in-Ok.ensures.moments W of.core_of) (λ image shown. inl shown)) c.in-Ok.ensures.cause)

pub returns-in-Err : Rattle.iso_machine.proofs.machine.Machine.compact.Goals.returns-in-Err
returns-in-Err g c W of =
    let f = c.in-Err.ensures in
    answers_by c.refused.ensures (answers_as (sym (compact_is W 1))
    (switch_refused W.geometry.form (core.Compacted (floor W)) c.in-Err.error of (λ none. none) (f.refused W (core.Compacted (floor W)) of.core_of) (f.same W of.core_of) f.worn (f.moments W of.core_of) f.cause))
