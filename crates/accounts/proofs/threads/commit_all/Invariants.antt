use Rattle.accounts.proofs.Words.{◌<◌, IsKept, Stays, opening_of}

abbrev pub invariant-loop-transfer : Rattle.accounts.proofs.threads.commit_all.Given.invariant-loop-transfer
invariant-loop-transfer g l = record {
  kept : IsKept (opening_of l.accounts) g.O.Origin.start l.session;
  stays : Stays l.fn.session l.session;
  units : 1 < l.session.units;
}
