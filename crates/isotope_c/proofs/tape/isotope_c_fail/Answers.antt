use Rattle.std.proofs.Common.{◌≡◌, refl, subst}
use Rattle.queued_disk.specs.declared.queued.QueuedDisk.{QueuedDisk}
use Rattle.device_desk.specs.Device.{Device}
use Rattle.isotope_c.specs.Exports.{HasFailed}
use Rattle.isotope_c.proofs.Serving.{held_is, holds}
use Rattle.isotope_c.proofs.tape.isotope_c_fail.Goals as goal

pub returns-clause-done : goal.returns-clause-done
returns-clause-done c d was =
    let same : c.in-Open.desk ≡ d = held_is c.args.slot.now c.put.new.slot c.take_open-instance.ensures.there c.deref_mut.ensures.value c.in-Open.is c.put.ensures was in (
      refl,
      subst (λ (e : Device QueuedDisk). HasFailed e c.put.new.slot) same (record {
        now = c.fail.new.desk;
        there = holds c.args.slot.now c.put.new.slot c.take_open-instance.ensures.there c.deref_mut.ensures.value c.in-Open.is c.put.ensures;
        down = c.fail.ensures.down;
        failed = c.fail.ensures.failed;
        tape = c.fail.ensures.tape;
        handed = c.fail.ensures.handed;
      }),
    )
