-- The ledger is the new one.

abbrev pub ghosts-decided_in : Rattle.index_tests.proofs.decision_tests.known.Given.ghosts-decided_in
ghosts-decided_in a = record { name = a.blank.name; parts = a.blank.parts }
