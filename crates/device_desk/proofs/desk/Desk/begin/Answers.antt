use Rattle.iso_machine.proofs.Words.{refl, step}
use Rattle.script_model.specs.declared.script.Op.TheVariants as op
use Rattle.device_desk.proofs.Devices.{answers_from, begins, begun_world, never_down, never_up, sees}
use Rattle.device_desk.proofs.desk.Desk.begin.Goals as goal

pub returns-then-not-self-clause-did : goal.returns-then-not-self-clause-did
returns-then-not-self-clause-did g c W stands = never_up c.self.view_is c.if-not-self.true stands.is_up

pub returns-then-not-self-clause-number : goal.returns-then-not-self-clause-number
returns-then-not-self-clause-number g c W at stands told = absurd (cc told)

pub returns-then-not-self-clause-down : goal.returns-then-not-self-clause-down
returns-then-not-self-clause-down g c down = record { answer = refl; same = refl }

pub begin-requires : goal.begin-requires
begin-requires g c = c.self.invariant c.if-not-self.false

pub invariant_of-self : goal.invariant_of-self
invariant_of-self g c on =
    let was = c.self.invariant on in
    begun_world c.begin.new.self c.begin.result (c.begin.ensures.answer was.0 was.1)

pub returns-clause-did : goal.returns-clause-did
returns-clause-did g c =
    answers_from c.self.view_is {given = λ W. step W W.next (op.Begin c.args.mode)} (λ W stands. begins c.begin.result c.if-not-self.false (c.begin.ensures.answer W stands.table))

pub returns-clause-number : goal.returns-clause-number
returns-clause-number g c W at stands told = c.begin.ensures.number W at (sees c.self.view_is stands).table told

pub returns-clause-down : goal.returns-clause-down
returns-clause-down g c down = never_down c.self.view_is c.if-not-self.false down
