use Rattle.iso_machine.proofs.{Words.{refl}, Told.told_so}
use Rattle.script_model.specs.declared.script.Op.TheVariants as op
use Rattle.device_desk.proofs.Devices.{begins, begun_world, never_down, never_up, told_from}
use Rattle.device_desk.proofs.desk.Desk.put.Goals as goal

pub returns-then-not-self-clause-did : goal.returns-then-not-self-clause-did
returns-then-not-self-clause-did g c W stands = never_up c.self.view_is c.if-not-self.true stands.is_up

pub returns-then-not-self-clause-down : goal.returns-then-not-self-clause-down
returns-then-not-self-clause-down g c down = record { answer = refl; same = refl }

pub put-requires-clause-stands : goal.put-requires-clause-stands
put-requires-clause-stands g c = c.self.invariant c.if-not-self.false

pub invariant_of-self : goal.invariant_of-self
invariant_of-self g c on =
    let was = c.self.invariant on in
    begun_world c.put.new.self c.put.result (c.put.ensures was.0 was.1)

pub returns-clause-did : goal.returns-clause-did
returns-clause-did g c =
    told_from c.self.view_is c.args.number (op.Put c.args.block c.args.off c.args.bytes.now)
    (λ W stands. told_so c.put.result (λ why may. tt) (begins c.put.result c.if-not-self.false (c.put.ensures W stands.table)))

pub returns-clause-down : goal.returns-clause-down
returns-clause-down g c down = never_down c.self.view_is c.if-not-self.false down
