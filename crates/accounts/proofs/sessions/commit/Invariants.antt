use Rattle.accounts.proofs.Words.{◌<◌, IsKept, Stays, opening_of}

abbrev pub invariant-loop : Rattle.accounts.proofs.sessions.commit.Given.invariant-loop
invariant-loop g l = record {
  kept : IsKept (opening_of l.accounts) g.O.Origin.start l.session;
  stays : Stays l.fn.session l.session;
  units : 1 < l.session.units;
}
