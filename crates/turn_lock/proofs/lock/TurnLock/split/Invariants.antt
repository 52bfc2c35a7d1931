-- the number and the units of the call
abbrev pub ghosts-cut : Rattle.turn_lock.proofs.lock.TurnLock.split.Given.ghosts-cut
ghosts-cut g a = record { number = a.number; units = a.units }
