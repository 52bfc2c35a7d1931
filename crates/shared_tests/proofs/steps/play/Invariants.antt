use Rattle.shared_tests.specs.Clients.{IsClient}

-- two clients of one device
abbrev pub invariant-loop-number : Rattle.shared_tests.proofs.steps.play.Given.invariant-loop-number
invariant-loop-number g l = IsClient l.shared g.O.Origin.start l.first.port l.first.tx × IsClient l.shared g.O.Origin.start l.second.port l.second.tx
