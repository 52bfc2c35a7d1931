use Rattle.turn_lock.proofs.Words.{◌≡◌, IsSamePass}

-- it was not woken yet
abbrev pub invariant-loop : Rattle.turn_lock.proofs.lock.TurnLock.sleep.Given.invariant-loop
invariant-loop g l = IsSamePass l.initial.pass l.pass × (l.pass.me ≡ l.initial.pass.me)
