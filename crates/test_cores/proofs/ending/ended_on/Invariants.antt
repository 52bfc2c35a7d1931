-- The ledger is the new one.

abbrev pub ghosts-end_of : Rattle.test_cores.proofs.ending.ended_on.Given.ghosts-end_of
ghosts-end_of a = record { name = a.blank.name; parts = a.blank.parts }
