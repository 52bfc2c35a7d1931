-- The list begins where the core does.
use Rattle.iso_core.specs.Core.{disk_of}
use Rattle.iso_memdisk.specs.MemDisk.{state_of}
use Rattle.iso_shared.specs.Standing.{start_at}

abbrev pub ghosts-played_over : Rattle.handle_tests.proofs.hall.played_on.Given.ghosts-played_over
ghosts-played_over g a = record { start = start_at a.beginning.world (state_of (disk_of a.core)); disk = state_of (disk_of a.core) }
