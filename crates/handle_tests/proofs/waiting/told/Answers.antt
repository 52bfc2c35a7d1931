use Rattle.std.proofs.Common.{ℕ, ◌+◌, ◌∙◌, ap}
use Rattle.committer.proofs.Rejoined.{told_of}
use Rattle.iso_shared.specs.Ports.{port_view}
use Rattle.handle_tests.proofs.waiting.told.Goals as goal

pub join-requires-clause-from : goal.join-requires-clause-from
join-requires-clause-from g c =
    (told_of g.O.Origin.start c.args.shared.now c.requires.request.0 c.in-Ended.ended (c.in-Ended.ensures.outcome c.requires.request.0 c.requires.request.1)).0

pub returns-in-Ended-clause-port : goal.returns-in-Ended-clause-port
returns-in-Ended-clause-port g c =
    let told = told_of g.O.Origin.start c.args.shared.now c.requires.request.0 c.in-Ended.ended (c.in-Ended.ensures.outcome c.requires.request.0 c.requires.request.1) in
    (c.join.ensures.into, c.join.ensures.units ∙ ap (λ (k : ℕ). (port_view c.args.port.now).units + k) told.1)

pub abort-requires-clause-tx : goal.abort-requires-clause-tx
abort-requires-clause-tx g c = (c.in-Refused.ensures.outcome c.requires.request.0 c.requires.request.1).tx.tx

pub returns-in-Refused-clause-port : goal.returns-in-Refused-clause-port
returns-in-Refused-clause-port g c =
    (c.abort.ensures.port, c.abort.ensures.units ∙ ap (λ (k : ℕ). (port_view c.args.port.now).units + k) (c.in-Refused.ensures.outcome c.requires.request.0 c.requires.request.1).tx.unit)

pub join-requires-in-Lost-clause-from : goal.join-requires-in-Lost-clause-from
join-requires-in-Lost-clause-from g c = (c.in-Lost.ensures.outcome c.requires.request.0 c.requires.request.1).port.port

pub returns-in-Lost-clause-port : goal.returns-in-Lost-clause-port
returns-in-Lost-clause-port g c =
    (c.join-in-Lost.ensures.into, c.join-in-Lost.ensures.units ∙ ap (λ (k : ℕ). (port_view c.args.port.now).units + k) (c.in-Lost.ensures.outcome c.requires.request.0 c.requires.request.1).port.unit)
