use Rattle.committer.specs.Sides.{IsClient, Rests}

-- one client, without a request
abbrev pub invariant-loop-number : Rattle.handle_tests.proofs.desk_tests.talk.Given.invariant-loop-number
invariant-loop-number g l = IsClient l.desk l.client × Rests l.client
