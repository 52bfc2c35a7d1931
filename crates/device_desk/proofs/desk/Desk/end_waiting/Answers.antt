use Rattle.iso_machine.proofs.Words.{length, take}
use Rattle.device_desk.specs.Waiting.{after_ends}
use Rattle.device_desk.proofs.Devices.{never_down, never_up, waits_from, waits_up}
use Rattle.device_desk.proofs.desk.Desk.end_waiting.Goals as goal

pub returns-then-not-self-clause-did : goal.returns-then-not-self-clause-did
returns-then-not-self-clause-did g c W stands = never_up c.self.view_is c.if-not-self.true stands.is_up

pub invariant_of-self : goal.invariant_of-self
invariant_of-self g c on =
    let was = c.self.invariant c.if-not-self.false in
    let waits = c.end_waiting-waited.ensures was.0 was.1 in
    (after_ends was.0 (take (length c.end_waiting-waited.result.replies.items) c.args.numbers.now), waits.world (c.stays_up-self-inside.ensures.on on))

pub returns-clause-did : goal.returns-clause-did
returns-clause-did g c = waits_from c.self.view_is (λ W stands. waits_up c.stays_up-self-inside.ensures.back (c.end_waiting-waited.ensures W stands.table))

pub returns-clause-down : goal.returns-clause-down
returns-clause-down g c down = never_down c.self.view_is c.if-not-self.false down
