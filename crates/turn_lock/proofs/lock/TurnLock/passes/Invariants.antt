use Rattle.turn_lock.proofs.Words.{◌≡◌, IsSamePass}

-- the gate was not passed yet
abbrev pub invariant-loop : Rattle.turn_lock.proofs.lock.TurnLock.passes.Given.invariant-loop
invariant-loop g l = IsSamePass l.initial.pass l.pass × (l.pass.me ≡ l.initial.pass.me)
