use Rattle.iso_recover.proofs.{Words.◌≤◌, Steps.IsReading}

abbrev pub invariant-loop-i : Rattle.iso_recover.proofs.log.read_log.Given.invariant-loop-i
invariant-loop-i g l = record {
  reading : IsReading l.front (g.D.Disk.state l.fn.disk) (g.D.Disk.state l.disk) l.log l.index l.ahead;
  steps : l._i ≤ l.log.used;
}
