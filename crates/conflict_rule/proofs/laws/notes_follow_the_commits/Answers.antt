use Rattle.conflict_rule.proofs.Following.{added_after, dropped_after, none_after}

pub returns-clause-none : Rattle.conflict_rule.proofs.laws.notes_follow_the_commits.Goals.returns-clause-none
returns-clause-none c = none_after

pub returns-clause-added : Rattle.conflict_rule.proofs.laws.notes_follow_the_commits.Goals.returns-clause-added
returns-clause-added c = added_after

pub returns-clause-dropped : Rattle.conflict_rule.proofs.laws.notes_follow_the_commits.Goals.returns-clause-dropped
returns-clause-dropped c = dropped_after
