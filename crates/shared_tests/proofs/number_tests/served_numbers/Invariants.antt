use Rattle.std.proofs.Common.{None}

abbrev pub ghosts-take_back : Rattle.shared_tests.proofs.number_tests.served_numbers.Given.ghosts-take_back
ghosts-take_back g a = record { entry = record { out = None; back = a.numbers.now } }
