use Rattle.iso_shared.proofs.PostsBefore.{told_shown}

pub returns : Rattle.iso_shared.proofs.laws.told_commits_are_shown.Goals.returns
returns c = told_shown
