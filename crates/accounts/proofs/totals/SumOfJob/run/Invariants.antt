use Rattle.std.proofs.Common.{◌≡◌}

abbrev pub invariant-loop-account : Rattle.accounts.proofs.totals.SumOfJob.run.Given.invariant-loop-account
invariant-loop-account g l = record {
  of : l.session.device ≡ l.fn.session.device;
  units : l.session.units ≡ l.fn.session.units;
}
