-- The list begins where the core does.
use Rattle.iso_core.specs.Core.{disk_of}
use Rattle.iso_shared.specs.Standing.{start_at}

abbrev pub ghosts-served : Rattle.device_calls.proofs.device_job.with_device.Given.ghosts-served
ghosts-served g a = record { start = start_at a.beginning.world (g.D.Disk.state (disk_of a.core)); disk = g.D.Disk.state (disk_of a.core) }
