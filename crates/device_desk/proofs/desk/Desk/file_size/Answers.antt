use Rattle.iso_machine.proofs.Words.{refl}
use Rattle.device_desk.specs.Device.{disk_under}
use Rattle.device_desk.proofs.{Devices.{never_down, never_up, wants_memory}, FileSizes.{sized_from, sized_on, sized_world}}
use Rattle.device_desk.proofs.desk.Desk.file_size.Goals as goal

pub returns-then-not-self-clause-did : goal.returns-then-not-self-clause-did
returns-then-not-self-clause-did g c W stands = never_up c.self.view_is c.if-not-self.true stands.is_up

pub returns-then-not-self-clause-down : goal.returns-then-not-self-clause-down
returns-then-not-self-clause-down g c down = record { answer = refl; same = refl }

pub returns-in_default-clause-did : goal.returns-in_default-clause-did
returns-in_default-clause-did g c W stands = wants_memory {d = c.args.self.now} (g.met.D.Disk.lawful (disk_under c.args.self.now)) stands

pub returns-in_default-clause-down : goal.returns-in_default-clause-down
returns-in_default-clause-down g c down = never_down c.self.view_is c.if-not-self.false down

pub file_size-requires : goal.file_size-requires
file_size-requires g c = c.self.invariant c.if-not-self.false

pub invariant_of-self : goal.invariant_of-self
invariant_of-self g c on =
    let was = c.self.invariant c.if-not-self.false in
    sized_world c.file_size.new.self c.file_size.result (c.file_size.ensures was.0 was.1)

pub returns-clause-did : goal.returns-clause-did
returns-clause-did g c =
    sized_from c.self.view_is c.args.number c.in-Ok.key c.args.name.now c.in-Ok.ensures.same (λ W stands. sized_on c.file_size.result c.if-not-self.false (c.file_size.ensures W stands.table))

pub returns-clause-down : goal.returns-clause-down
returns-clause-down g c down = never_down c.self.view_is c.if-not-self.false down
