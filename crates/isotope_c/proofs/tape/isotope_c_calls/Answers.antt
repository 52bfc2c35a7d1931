use Rattle.std.proofs.Common.{◌≡◌, ◌∙◌, sym, ap, refl, List, drop}
use Rattle.iso_memdisk.specs.declared.record.Call.{Call}
use Rattle.queued_disk.specs.{declared.queued.QueuedDisk.QueuedDisk, Queued.tape_of}
use Rattle.device_desk.specs.Device.{Device, disk_under}
use Rattle.isotope_c.specs.{Instances.desk_in, Told.calls_told}
use Rattle.isotope_c.proofs.Serving.{taken_is}
use Rattle.isotope_c.proofs.tape.isotope_c_calls.Goals as goal

pub returns-clause-same : goal.returns-clause-same
returns-clause-same c d was = ap desk_in (c.put.ensures ∙ sym c.take_open-instance.ensures.there) ∙ was

pub returns-clause-shown : goal.returns-clause-shown
returns-clause-shown c d was =
    let same : c.in-Open.desk ≡ d = taken_is c.args.slot.now c.take_open-instance.ensures.there (sym c.deref.ensures ∙ c.in-Open.is) was in
    let tape : c.calls_from.result.now ≡ drop c.args.index (tape_of (disk_under d)) =
    c.calls_from.ensures ∙ ap (λ (l : List Call). drop c.args.index l) (c.tape.ensures ∙ ap (λ (e : Device QueuedDisk). tape_of (disk_under e)) same) in (
      refl,
      c.show_calls.ensures ∙ ap (λ (l : List Call). calls_told l c.args.places.now c.args.into.now) tape,
    )
