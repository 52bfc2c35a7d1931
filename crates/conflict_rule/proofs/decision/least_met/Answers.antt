use Rattle.conflict_rule.proofs.{Words.{arith, above}, Meetings.none_met}

pub returns-then-is_empty-clause-least : Rattle.conflict_rule.proofs.decision.least_met.Goals.returns-then-is_empty-clause-least
returns-then-is_empty-clause-least g c b p touched = none_met c.args.bytes.now (above c.args.upto c.args.notes.now.notes) c.if-is_empty.ensures.none

pub returns-clause-none : Rattle.conflict_rule.proofs.decision.least_met.Goals.returns-clause-none
returns-clause-none g c none = grind arith
