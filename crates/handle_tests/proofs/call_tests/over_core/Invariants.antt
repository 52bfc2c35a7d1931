-- The list begins where the core does.
use Rattle.iso_core.specs.Core.{disk_of}
use Rattle.iso_shared.specs.Standing.{start_at}

abbrev pub ghosts-on_device : Rattle.handle_tests.proofs.call_tests.over_core.Given.ghosts-on_device
ghosts-on_device g a = record { start = start_at a.beginning.world (g.D.Disk.state (disk_of a.core)); disk = g.D.Disk.state (disk_of a.core) }
