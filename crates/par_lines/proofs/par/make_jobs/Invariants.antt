use Rattle.par_lines.proofs.Words.{◌≡◌, ◌+◌, ◌*◌, ◌<◌, ◌≤◌, ◌++◌, [], length, map, reverse, All, sum_by, vec_capacity, LAST, IsPort, port_view, lines_of, units_in, IsNew}

abbrev pub invariant-loop-id : Rattle.par_lines.proofs.par.make_jobs.Given.invariant-loop-id
invariant-loop-id g l = record {
  port : IsPort l.shared l.port;
  mine : (port_view l.port).mine ≡ [];
  enough : 4294967296 * length l.dealt.items < (port_view l.port).units;
  units : (port_view l.port).units + sum_by units_in l.jobs.items ≡ LAST;
  dealt : All (λ a. a.1.items ≡ lines_of a.0 l.lines.value.items) l.dealt.items;
  room : length l.jobs.items + length l.dealt.items ≤ vec_capacity l.jobs;
  few : length l.jobs.items + length l.dealt.items ≤ 64;
  new : All (λ j. IsNew g.O.Origin.start l.shared l.lines.value.items j) l.jobs.items;
  clients : map (λ a. a.0) l.initial.dealt.items ≡ map (λ a. a.0) l.dealt.items ++ reverse (map (λ j. j.id) l.jobs.items);
}

abbrev pub decreases-loop-id : Rattle.par_lines.proofs.par.make_jobs.Given.decreases-loop-id
decreases-loop-id g l = length l.dealt.items
