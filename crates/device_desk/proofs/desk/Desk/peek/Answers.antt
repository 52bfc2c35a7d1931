use Rattle.device_desk.proofs.{Devices.begun_world, Peeks.get_shows}
use Rattle.device_desk.proofs.desk.Desk.peek.Goals as goal

pub returns-then-not-self-clause-get : goal.returns-then-not-self-clause-get
returns-then-not-self-clause-get g c W t is few = get_shows W c.args.number c.args.block c.args.off c.args.len t is few

pub invariant_of-self : goal.invariant_of-self
invariant_of-self g c on =
    let was = c.self.invariant c.if-not-self.false in
    begun_world c.peek.new.self c.peek.result (c.peek.ensures.answer was.0 was.1)

pub returns-clause-get : goal.returns-clause-get
returns-clause-get g c W t is few = get_shows W c.args.number c.args.block c.args.off c.args.len t is few
