use Rattle.shared_tests.specs.Clients.{IsClient}

-- one client of one device
abbrev pub invariant-loop : Rattle.shared_tests.proofs.steps.commits.Given.invariant-loop
invariant-loop g l = IsClient l.shared g.O.Origin.start l.client.port l.client.tx
