-- The transaction began as it is at the call.
use Rattle.iso_machine.proofs.Words.{StandsFor, disk_of, up, array_told}

abbrev pub ghosts-call_from : Rattle.iso_machine.proofs.storing.call_on.Given.ghosts-call_from
ghosts-call_from g a = record {
  stood = λ W. StandsFor g.D.Disk.state a.core.now W up;
  disk = g.D.Disk.state (disk_of a.core.now);
  doing = a.work.now;
  array = array_told g.D.Disk.state a.core.now a.work.now.begin;
  core_name = a.core.ghost_name;
  work_name = a.work.ghost_name;
}
