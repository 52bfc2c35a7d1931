abbrev pub ghosts-give : Rattle.shared_tests.proofs.turn_tests.add.Given.ghosts-give
ghosts-give g a = record { entry = a.entry }
