use Rattle.group_commit.proofs.Words.{length}

abbrev pub decreases-is_found : Rattle.group_commit.proofs.members.+is_found.Given.decreases-is_found
decreases-is_found g l = length l.members.now
