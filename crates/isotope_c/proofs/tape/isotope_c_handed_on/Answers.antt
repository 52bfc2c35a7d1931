use Rattle.std.proofs.Common.{◌≡◌, refl, subst}
use Rattle.queued_disk.specs.declared.queued.QueuedDisk.{QueuedDisk}
use Rattle.device_desk.specs.Device.{Device}
use Rattle.isotope_c.specs.Exports.{HasHandedOn}
use Rattle.isotope_c.proofs.Serving.{held_is, holds}
use Rattle.isotope_c.proofs.tape.isotope_c_handed_on.Goals as goal

pub returns-clause-done : goal.returns-clause-done
returns-clause-done c d was =
    let same : c.in-Open.desk ≡ d = held_is c.args.slot.now c.put.new.slot c.take_open-instance.ensures.there c.deref_mut.ensures.value c.in-Open.is c.put.ensures was in (
      refl,
      subst (λ (e : Device QueuedDisk). HasHandedOn e c.put.new.slot) same (record {
        now = c.hand_on.new.desk;
        there = holds c.args.slot.now c.put.new.slot c.take_open-instance.ensures.there c.deref_mut.ensures.value c.in-Open.is c.put.ensures;
        tape = c.hand_on.ensures.tape;
        given = c.hand_on.ensures.given;
        handed = c.hand_on.ensures.handed;
        same = c.hand_on.ensures.same;
        still = c.hand_on.ensures.still;
      }),
    )
