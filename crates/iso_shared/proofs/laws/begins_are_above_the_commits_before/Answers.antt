use Rattle.iso_shared.proofs.PostsBefore.{begins_after_commits}

pub returns : Rattle.iso_shared.proofs.laws.begins_are_above_the_commits_before.Goals.returns
returns c = begins_after_commits
