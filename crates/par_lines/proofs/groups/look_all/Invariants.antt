use Rattle.par_lines.proofs.{Words.{◌≤◌, length, vec_capacity, port_view}, Grouping.Looking}

abbrev pub invariant-loop-label : Rattle.par_lines.proofs.groups.look_all.Given.invariant-loop-label
invariant-loop-label g l = record {
  looking : Looking l.shared g.O.Origin.start (port_view l.initial.port) l.labels l.label-index l.port l.found.items;
  room : length l.labels ≤ vec_capacity l.found;
}
