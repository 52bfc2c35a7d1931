use Rattle.std.proofs.Common.{◌≡◌}
use Rattle.committer.specs.Sides.{IsClient, Rests}

-- the session has its device and its units, and the client no request
abbrev pub invariant-loop-turn : Rattle.commit_load.proofs.work.commit_all.Given.invariant-loop-turn
invariant-loop-turn g l = record {
  device : l.session.device ≡ l.fn.session.device;
  units : l.session.units ≡ l.fn.session.units;
  client : IsClient l.place.desk.now l.client × Rests l.client;
}
