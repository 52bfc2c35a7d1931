-- The ledger is the new one.

abbrev pub ghosts-ended : Rattle.shared_tests.proofs.clients.end.Given.ghosts-ended
ghosts-ended g a = record { name = a.blank.name; parts = a.blank.parts }
