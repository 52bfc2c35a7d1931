use Rattle.iso_machine.proofs.Words.{◌∙◌, ap}
use Rattle.queued_disk.specs.{declared.queued.QueuedDisk.{QueuedDisk}, Queued.{handed_on, is_failed, tape_of}}
use Rattle.device_desk.specs.Device.{Device, disk_under}
use Rattle.device_desk.proofs.taped.fail.Goals as goal

pub returns-clause-down : goal.returns-clause-down
returns-clause-down c = ap (λ (d : Device QueuedDisk). d.up) c.go_down.ensures

pub returns-clause-failed : goal.returns-clause-failed
returns-clause-failed c = ap (λ (d : Device QueuedDisk). is_failed (disk_under d)) c.go_down.ensures ∙ c.rebind.ensures.did.0

pub returns-clause-tape : goal.returns-clause-tape
returns-clause-tape c = ap (λ (d : Device QueuedDisk). tape_of (disk_under d)) c.go_down.ensures ∙ c.rebind.ensures.did.1

pub returns-clause-handed : goal.returns-clause-handed
returns-clause-handed c = ap (λ (d : Device QueuedDisk). handed_on (disk_under d)) c.go_down.ensures ∙ c.rebind.ensures.did.2
