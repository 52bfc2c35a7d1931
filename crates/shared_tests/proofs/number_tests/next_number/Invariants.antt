use Rattle.std.proofs.Common.{Some, []}

abbrev pub ghosts-hand_out : Rattle.shared_tests.proofs.number_tests.next_number.Given.ghosts-hand_out
ghosts-hand_out g a = record { entry = record { out = Some a.number; back = [] } }
