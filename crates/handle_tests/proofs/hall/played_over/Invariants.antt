-- The transactions that are handed in are of this device.
use Rattle.std.proofs.Common.{Some}

abbrev pub ghosts-played_at : Rattle.handle_tests.proofs.hall.played_over.Given.ghosts-played_at
ghosts-played_at g a = record { device = Some a.shared.now }
