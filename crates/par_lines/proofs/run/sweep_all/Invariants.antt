use Rattle.par_lines.proofs.Words.{◌≡◌, LAST, IsPort, port_view, Swept}

abbrev pub invariant-loop : Rattle.par_lines.proofs.run.sweep_all.Given.invariant-loop
invariant-loop g l = record {
  iterates : (Rattle.par_lines.proofs.run.sweep_all.Given.iterator-loop g).can_next l.iterator' × (Rattle.par_lines.proofs.run.sweep_all.Given.iterator-loop g).is_finite l.iterator';
  port : IsPort l.initial.shared l.port;
  units : (port_view l.port).units ≡ LAST;
  swept : Swept (port_view l.initial.port) (port_view l.port);
}
