use Rattle.iso_shared.proofs.Words.{length}

abbrev pub decreases-split_members : Rattle.iso_shared.proofs.shared.Shared.+split_members.Given.decreases-split_members
decreases-split_members g l = length l.group.now
