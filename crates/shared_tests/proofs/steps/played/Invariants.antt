-- The list begins where the core does.
use Rattle.iso_core.specs.Core.{disk_of}
use Rattle.iso_memdisk.specs.MemDisk.{state_of}
use Rattle.shared_tests.specs.Starts.{start_of}

abbrev pub ghosts-play_over : Rattle.shared_tests.proofs.steps.played.Given.ghosts-play_over
ghosts-play_over g a = record { start = start_of a.core; disk = state_of (disk_of a.core) }
