use Rattle.par_lines.proofs.Awaiting.{Looking}

abbrev pub invariant-loop-round : Rattle.par_lines.proofs.labels.await_label.Given.invariant-loop-round
invariant-loop-round g l = record {
  looking : Looking l.initial.session l.label l.round l.session;
}
