-- The ledger is the new one.

abbrev pub ghosts-found_by : Rattle.index_tests.proofs.versions_tests.OneBlock.found.Given.ghosts-found_by
ghosts-found_by a = record { name = a.blank.name; parts = a.blank.parts }
