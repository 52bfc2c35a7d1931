use Rattle.std.proofs.Common.{◌≡◌, ◌∙◌, sym, ap, subst, ℤ, List, Some, SFits, rules, w32, of_z, to_z, to_z-of_z}
use Rattle.script_model.specs.Step.{grouped}
use Rattle.queued_disk.specs.declared.queued.QueuedDisk.{QueuedDisk}
use Rattle.device_desk.specs.{Device.Device, Numbers.numbers_step}
use Rattle.isotope_c.specs.{declared.records.Ended.Ended, Told.group_told}
use Rattle.isotope_c.proofs.Serving.{held_is, holds, stepped}
use Rattle.isotope_c.proofs.ending.isotope_c_end_group.Goals as goal

pub returns-clause-many : goal.returns-clause-many
returns-clause-many c d was on places more =
    let fits : SFits w32 c.group_told.result = search rules in
    let same : c.in-Open.desk ≡ d = held_is c.args.slot.now c.put.new.slot c.take_open-instance.ensures.there c.deref_mut.ensures.value c.in-Open.is c.put.ensures was in
    let no = c.end_group-answer.ensures.many (ap (λ (e : Device QueuedDisk). e.up) same ∙ on) more in
    let told = c.group_told.ensures ∙ ap (group_told c.args.ended.now) no.0 in (
      to_z-of_z fits ∙ ap (λ (p : ℤ × List Ended). p.0) told,
      holds c.args.slot.now c.put.new.slot c.take_open-instance.ensures.there c.deref_mut.ensures.value c.in-Open.is c.put.ensures ∙ ap Some (no.1 ∙ same),
    )

pub returns-clause-down : goal.returns-clause-down
returns-clause-down c d was off places =
    let fits : SFits w32 c.group_told.result = search rules in
    let same : c.in-Open.desk ≡ d = held_is c.args.slot.now c.put.new.slot c.take_open-instance.ensures.there c.deref_mut.ensures.value c.in-Open.is c.put.ensures was in
    let no = c.end_group-answer.ensures.down (ap (λ (e : Device QueuedDisk). e.up) same ∙ off) in
    let told = c.group_told.ensures ∙ ap (group_told c.args.ended.now) no.answer in (
      to_z-of_z fits ∙ ap (λ (p : ℤ × List Ended). p.0) told,
      holds c.args.slot.now c.put.new.slot c.take_open-instance.ensures.there c.deref_mut.ensures.value c.in-Open.is c.put.ensures ∙ ap Some (no.same ∙ same),
    )

pub returns-clause-ends : goal.returns-clause-ends
returns-clause-ends c places most =
    let fits : SFits w32 c.group_told.result = search rules in
    let told : (to_z w32 (of_z w32 c.group_told.result), c.group_told.new.places) ≡ group_told c.args.ended.now c.end_group-answer.result =
    subst (λ (s : ℤ). (s, c.group_told.new.places) ≡ group_told c.args.ended.now c.end_group-answer.result) (sym (to_z-of_z fits)) c.group_told.ensures in
    stepped c.args.slot.now c.put.new.slot c.take_open-instance.ensures.there c.deref_mut.ensures.value c.in-Open.is c.put.ensures {given = λ W. grouped (numbers_step W c.args.numbers.now)}
    (λ W stands. c.end_group-answer.ensures.did W stands most) c.end_group-answer.ensures.down (λ W stands. told) (λ W down. told)
