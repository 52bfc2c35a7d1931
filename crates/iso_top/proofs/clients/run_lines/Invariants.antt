-- The list begins where the core does.
use Rattle.iso_top.proofs.Words.{disk_of, start_at}

abbrev pub ghosts-run_over : Rattle.iso_top.proofs.clients.run_lines.Given.ghosts-run_over
ghosts-run_over g a = record { start = start_at a.beginning.world (g.I.Disk.state (disk_of a.core)); disk = g.I.Disk.state (disk_of a.core) }
