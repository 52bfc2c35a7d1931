-- The list begins where the core does.
use Rattle.iso_core.specs.Core.{disk_of}
use Rattle.iso_shared.specs.Standing.{start_at}

abbrev pub ghosts-run_over : Rattle.commit_load.proofs.run.run_core.Given.ghosts-run_over
ghosts-run_over g a = record { start = start_at a.beginning.world (g.D.Disk.state (disk_of a.core)); disk = g.D.Disk.state (disk_of a.core) }
