-- The transactions that are handed in are of this device.
use Rattle.std.proofs.Common.{Some}

abbrev pub ghosts-run_on : Rattle.commit_load.proofs.run.run_over.Given.ghosts-run_on
ghosts-run_on g a = record { device = Some a.shared.now }
