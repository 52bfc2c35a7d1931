-- The list begins where the core does.
use Rattle.iso_core.specs.Core.{disk_of}
use Rattle.iso_memdisk.specs.MemDisk.{state_of}
use Rattle.handle_tests.proofs.Starts.{start_of}

abbrev pub ghosts-run : Rattle.handle_tests.proofs.session_tests.told.Given.ghosts-run
ghosts-run g a = record { start = start_of a.core; disk = state_of (disk_of a.core) }
