use Rattle.std.proofs.Common.{◌≡◌, ◌∙◌, sym, ap, subst, SFits, rules, w32, to_z-of_z, ℤ}
use Rattle.iso_model.specs.World.{attached}
use Rattle.queued_disk.specs.{declared.queued.QueuedDisk.QueuedDisk, Queued.state_of}
use Rattle.device_desk.specs.Device.{Device, StandsAt}
use Rattle.isotope_c.specs.{Instances.desk_in, Told.room_told}
use Rattle.isotope_c.proofs.Serving.{taken_is}
use Rattle.isotope_c.proofs.stat.isotope_c_room.Goals as goal

pub returns-clause-same : goal.returns-clause-same
returns-clause-same c = ap desk_in (c.put.ensures ∙ sym c.take_open-instance.ensures.there)

pub returns-clause-down : goal.returns-clause-down
returns-clause-down c d was off =
    let fits : SFits w32 c.tell_room-status.result = search rules in
    let same : c.in-Open.desk ≡ d = taken_is c.args.slot.now c.take_open-instance.ensures.there (sym c.deref.ensures ∙ c.in-Open.is) was in
    to_z-of_z fits ∙ c.tell_room-status.ensures.down (ap (λ (e : Device QueuedDisk). e.up) same ∙ off)

pub returns-clause-told : goal.returns-clause-told
returns-clause-told c d W was stands =
    let fits : SFits w32 c.tell_room-status.result = search rules in
    let same : c.in-Open.desk ≡ d = taken_is c.args.slot.now c.take_open-instance.ensures.there (sym c.deref.ensures ∙ c.in-Open.is) was in
    let stood : StandsAt state_of c.in-Open.desk W = subst (λ (e : Device QueuedDisk). StandsAt state_of e W) (sym same) stands in
    subst (λ (s : ℤ). (s, c.tell_room-status.new.accesses) ≡ room_told c.args.accesses.now (attached W c.args.tx)) (sym (to_z-of_z fits)) (c.tell_room-status.ensures.told W stood)
