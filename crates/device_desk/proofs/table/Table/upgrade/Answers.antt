use Rattle.iso_machine.proofs.{Words.{◌∙◌, inl, sym, ap, weakened, as_step, floor}, Quiet.{answered, answers_as, answers_by}, Switches.upgrade_is}
use Rattle.script_model.specs.declared.script.Reply.TheVariants as reply
use Rattle.iso_model.specs.declared.core_reply.CoreReply.TheVariants as core
use Rattle.device_desk.proofs.Tables.{switch_refused, switched}

pub returns-in-Ok : Rattle.device_desk.proofs.table.Table.upgrade.Goals.returns-in-Ok
returns-in-Ok g c W of =
    let is = c.in-Ok.ensures.switched W of.core_of in
    answers_as (sym (upgrade_is W 0 ∙ ap as_step (is.1 (core.Upgraded (floor W)))))
    (answered (ap reply.Upgraded is.0) c.in-Ok.ensures.told (switched of 2 is.2) (weakened (c.in-Ok.ensures.moments W of.core_of) (λ image shown. inl shown)) c.in-Ok.ensures.cause)

pub returns-in-Err : Rattle.device_desk.proofs.table.Table.upgrade.Goals.returns-in-Err
returns-in-Err g c W of =
    let f = c.in-Err.ensures in
    answers_by c.refused.ensures (answers_as (sym (upgrade_is W 0))
    (switch_refused of 2 (core.Upgraded (floor W)) c.in-Err.error (λ none. none) (f.refused W (core.Upgraded (floor W)) of.core_of) (f.same W of.core_of) f.worn (f.moments W of.core_of) f.cause))
