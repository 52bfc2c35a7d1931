use Rattle.shared_tests.specs.Clients.{IsClient}

-- one client of one device
abbrev pub invariant-loop-i : Rattle.shared_tests.proofs.steps.post_many.Given.invariant-loop-i
invariant-loop-i g l = IsClient l.shared g.O.Origin.start l.client.port l.client.tx
