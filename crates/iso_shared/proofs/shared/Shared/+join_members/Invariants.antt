use Rattle.iso_shared.proofs.Words.{length}

abbrev pub decreases-join_members : Rattle.iso_shared.proofs.shared.Shared.+join_members.Given.decreases-join_members
decreases-join_members g l = length l.group.now
