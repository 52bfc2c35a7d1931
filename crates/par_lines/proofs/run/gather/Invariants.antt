use Rattle.par_lines.proofs.Words.{◌≡◌, ◌+◌, ◌≤◌, ◌++◌, length, map, reverse, All, sum_by, times, IsPort, port_view, units_in, AllTold, Finished}

abbrev pub invariant-loop-job : Rattle.par_lines.proofs.run.gather.Given.invariant-loop-job
invariant-loop-job g l = record {
  port : IsPort l.shared l.port;
  units : (port_view l.port).units + sum_by units_in l.jobs.items ≡ (port_view l.initial.port).units + sum_by units_in l.initial.jobs.items;
  jobs : All (λ j. Finished g.O.Origin.start l.shared l.lines.value.items j) l.jobs.items;
  room : length l.jobs.items ≤ l.parts.room;
  clients : reverse (map (λ j. j.id) l.initial.jobs.items) ≡ map (λ p. p.client) l.parts.items ++ reverse (map (λ j. j.id) l.jobs.items);
  told : AllTold g.O.Origin.start l.lines.value.items (port_view l.port).seen l.parts.items (λ p. times p (port_view l.port).mine);
}

abbrev pub decreases-loop-job : Rattle.par_lines.proofs.run.gather.Given.decreases-loop-job
decreases-loop-job g l = Rattle.par_lines.proofs.run.gather.Given.left-loop-job g l
