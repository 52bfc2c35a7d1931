use Rattle.turn_lock.proofs.Words.{◌≡◌}

-- nothing is turned yet
abbrev pub invariant-loop : Rattle.turn_lock.proofs.lock.TurnLock.leave.Given.invariant-loop
invariant-loop g l = l.pass ≡ l.initial.pass
