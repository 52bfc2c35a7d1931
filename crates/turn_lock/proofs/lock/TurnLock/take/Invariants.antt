use Rattle.turn_lock.proofs.Words.{◌≡◌, IsSamePass}

-- the own ticket is not served yet
abbrev pub invariant-loop : Rattle.turn_lock.proofs.lock.TurnLock.take.Given.invariant-loop
invariant-loop g l = IsSamePass l.initial.pass l.pass × (l.pass.me ≡ l.initial.pass.me)
