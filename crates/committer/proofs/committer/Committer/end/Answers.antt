use Rattle.committer.proofs.committer.Committer.end.Goals as goal

pub returns-clause-outcome : goal.returns-clause-outcome
returns-clause-outcome g c = c.outcome.ensures.outcome c.args.tx c.hand_in.ensures.1
