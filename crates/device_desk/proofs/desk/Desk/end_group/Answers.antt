use Rattle.iso_machine.proofs.Words.{arith, refl}
use Rattle.script_model.specs.Step.{grouped}
use Rattle.device_desk.specs.Numbers.{numbers_step}
use Rattle.device_desk.proofs.Devices.{answers_from, group_stopped, grouped_so, never_down, never_up}
use Rattle.device_desk.proofs.desk.Desk.end_group.Goals as goal

pub returns-then-not-self-clause-did : goal.returns-then-not-self-clause-did
returns-then-not-self-clause-did g c W stands few = never_up c.self.view_is c.if-not-self.true stands.is_up

pub returns-then-not-self-clause-many : goal.returns-then-not-self-clause-many
returns-then-not-self-clause-many g c on many = never_up c.self.view_is c.if-not-self.true on

pub returns-then-not-self-clause-down : goal.returns-then-not-self-clause-down
returns-then-not-self-clause-down g c down = record { answer = refl; same = refl }

pub returns-then-numbers-gt-MAX_GROUP-clause-did : goal.returns-then-numbers-gt-MAX_GROUP-clause-did
returns-then-numbers-gt-MAX_GROUP-clause-did g c W stands few = absurd (omega (arith, few, c.if-numbers-gt-MAX_GROUP.true))

pub returns-then-numbers-gt-MAX_GROUP-clause-many : goal.returns-then-numbers-gt-MAX_GROUP-clause-many
returns-then-numbers-gt-MAX_GROUP-clause-many g c on many = (refl, refl)

pub returns-then-numbers-gt-MAX_GROUP-clause-down : goal.returns-then-numbers-gt-MAX_GROUP-clause-down
returns-then-numbers-gt-MAX_GROUP-clause-down g c down = never_down c.self.view_is c.if-not-self.false down

pub group-requires-clause-stands : goal.group-requires-clause-stands
group-requires-clause-stands g c = c.self.invariant c.if-not-self.false

pub invariant_of-self : goal.invariant_of-self
invariant_of-self g c on =
    let was = c.self.invariant on in
    ((grouped (numbers_step was.0 c.args.numbers.now)).1, (c.in-Ok.ensures was.0 was.1).world)

pub invariant_of-self-in-Err : goal.invariant_of-self-in-Err
invariant_of-self-in-Err g c off = absurd (cc off)

pub returns-in-Ok-clause-did : goal.returns-in-Ok-clause-did
returns-in-Ok-clause-did g c W stands few =
    answers_from c.self.view_is {given = λ V. grouped (numbers_step V c.args.numbers.now)} (λ V was. grouped_so c.if-not-self.false (c.in-Ok.ensures V was.table)) W stands

pub returns-in-Ok-clause-many : goal.returns-in-Ok-clause-many
returns-in-Ok-clause-many g c on many = absurd (omega (arith, many, c.if-numbers-gt-MAX_GROUP.false))

pub returns-in-Ok-clause-down : goal.returns-in-Ok-clause-down
returns-in-Ok-clause-down g c down = never_down c.self.view_is c.if-not-self.false down

pub returns-in-Err-clause-did : goal.returns-in-Err-clause-did
returns-in-Err-clause-did g c W stands few =
    answers_from c.self.view_is {given = λ V. grouped (numbers_step V c.args.numbers.now)} (λ V was. group_stopped (c.in-Err.ensures V was.table)) W stands

pub returns-in-Err-clause-many : goal.returns-in-Err-clause-many
returns-in-Err-clause-many g c on many = absurd (omega (arith, many, c.if-numbers-gt-MAX_GROUP.false))

pub returns-in-Err-clause-down : goal.returns-in-Err-clause-down
returns-in-Err-clause-down g c down = never_down c.self.view_is c.if-not-self.false down
