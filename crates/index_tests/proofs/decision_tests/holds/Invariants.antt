-- The ledger is the new one.

abbrev pub ghosts-holds_in : Rattle.index_tests.proofs.decision_tests.holds.Given.ghosts-holds_in
ghosts-holds_in a = record { name = a.blank.name; parts = a.blank.parts }
