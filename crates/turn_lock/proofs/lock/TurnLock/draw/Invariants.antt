use Rattle.turn_lock.proofs.Words.{◌≡◌, IsSamePass}

-- no ticket is drawn yet
abbrev pub invariant-loop : Rattle.turn_lock.proofs.lock.TurnLock.draw.Given.invariant-loop
invariant-loop g l = IsSamePass l.initial.pass l.pass × (l.pass.me ≡ l.initial.pass.me)
