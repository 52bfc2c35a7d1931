use Rattle.iso_machine.proofs.Words.{refl}
use Rattle.device_desk.proofs.Devices.{never_down, never_up, replied, stopped, told_from}
use Rattle.device_desk.proofs.desk.Desk.ask.Goals as goal

pub returns-then-not-self-clause-did : goal.returns-then-not-self-clause-did
returns-then-not-self-clause-did g c W stands = never_up c.self.view_is c.if-not-self.true stands.is_up

pub returns-then-not-self-clause-down : goal.returns-then-not-self-clause-down
returns-then-not-self-clause-down g c down = record { answer = refl; same = refl }

pub ask-requires-clause-stands : goal.ask-requires-clause-stands
ask-requires-clause-stands g c = c.self.invariant c.if-not-self.false

pub invariant_of-self : goal.invariant_of-self
invariant_of-self g c on =
    let was = c.self.invariant on in
    let is = c.in-Ok.ensures was.0 was.1 c.requires.op in
    (is.world.world, is.world.is)

pub invariant_of-self-in-Err : goal.invariant_of-self-in-Err
invariant_of-self-in-Err g c on =
    let was = c.self.invariant c.if-not-self.false in
    let still = (c.in-Err.ensures was.0 was.1 c.requires.op).stopped (c.goes_on-self-inside.ensures.on on) in
    (still.world, still.is)

pub returns-in-Ok-clause-did : goal.returns-in-Ok-clause-did
returns-in-Ok-clause-did g c =
    told_from c.self.view_is c.args.number c.args.op.now (λ W stands. replied c.if-not-self.false (c.in-Ok.ensures W stands.table c.requires.op))

pub returns-in-Ok-clause-down : goal.returns-in-Ok-clause-down
returns-in-Ok-clause-down g c down = never_down c.self.view_is c.if-not-self.false down

pub returns-in-Err-clause-did : goal.returns-in-Err-clause-did
returns-in-Err-clause-did g c =
    told_from c.self.view_is c.args.number c.args.op.now (λ W stands. stopped c.goes_on-self-inside.ensures.back (c.in-Err.ensures W stands.table c.requires.op))

pub returns-in-Err-clause-down : goal.returns-in-Err-clause-down
returns-in-Err-clause-down g c down = never_down c.self.view_is c.if-not-self.false down
