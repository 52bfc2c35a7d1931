use Rattle.iso_machine.proofs.Words.{refl}
use Rattle.device_desk.specs.Device.{disk_under}
use Rattle.device_desk.proofs.Devices.{never_down, never_up, wants_memory}

pub returns-then-self-clause-did : Rattle.device_desk.proofs.desk.Desk.unmade.Goals.returns-then-self-clause-did
returns-then-self-clause-did g c W number op stands = wants_memory {d = c.args.self.now} (g.met.D.Disk.lawful (disk_under c.args.self.now)) stands

pub returns-then-self-clause-down : Rattle.device_desk.proofs.desk.Desk.unmade.Goals.returns-then-self-clause-down
returns-then-self-clause-down g c down = never_down c.self.view_is c.if-self.true down

pub returns-else-self-clause-did : Rattle.device_desk.proofs.desk.Desk.unmade.Goals.returns-else-self-clause-did
returns-else-self-clause-did g c W number op stands = never_up c.self.view_is c.if-self.false stands.is_up

pub returns-else-self-clause-down : Rattle.device_desk.proofs.desk.Desk.unmade.Goals.returns-else-self-clause-down
returns-else-self-clause-down g c down = record { answer = refl; same = refl }
