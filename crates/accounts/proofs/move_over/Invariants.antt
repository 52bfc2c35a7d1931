-- The list begins where the core does.
use Rattle.iso_core.specs.Core.{disk_of}
use Rattle.iso_shared.specs.Standing.{start_at}

abbrev pub ghosts-moved : Rattle.accounts.proofs.move_over.Given.ghosts-moved
ghosts-moved g a = record { start = start_at a.beginning.world (g.D.Disk.state (disk_of a.core)); disk = g.D.Disk.state (disk_of a.core) }
