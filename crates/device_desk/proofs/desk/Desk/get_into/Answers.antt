use Rattle.iso_machine.proofs.{Words.{refl, length}, Told.told_so}
use Rattle.iso_machine.specs.Accessing.{with_bytes}
use Rattle.script_model.specs.declared.script.Op.TheVariants as op
use Rattle.device_desk.proofs.Devices.{begins, begun_world, never_down, never_up, told_from}
use Rattle.device_desk.proofs.desk.Desk.get_into.Goals as goal

pub returns-then-not-self-clause-did : goal.returns-then-not-self-clause-did
returns-then-not-self-clause-did g c W stands = never_up c.self.view_is c.if-not-self.true stands.is_up

pub returns-then-not-self-clause-down : goal.returns-then-not-self-clause-down
returns-then-not-self-clause-down g c down = record { answer = refl; same = refl }

pub get_into-requires : goal.get_into-requires
get_into-requires g c = c.self.invariant c.if-not-self.false

pub invariant_of-self : goal.invariant_of-self
invariant_of-self g c on =
    let was = c.self.invariant on in
    begun_world c.get_into.new.self (with_bytes c.get_into.result c.get_into.new.into) (c.get_into.ensures.answer was.0 was.1)

pub returns-clause-did : goal.returns-clause-did
returns-clause-did g c =
    told_from c.self.view_is c.args.number (op.Get c.args.block c.args.off (length c.args.into.now))
    (λ W stands. told_so (with_bytes c.get_into.result c.get_into.new.into) (λ why may. tt) (begins (with_bytes c.get_into.result c.get_into.new.into) c.if-not-self.false (c.get_into.ensures.answer W stands.table)))

pub returns-clause-down : goal.returns-clause-down
returns-clause-down g c down = never_down c.self.view_is c.if-not-self.false down
