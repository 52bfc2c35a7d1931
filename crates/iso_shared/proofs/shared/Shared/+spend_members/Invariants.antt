use Rattle.iso_shared.proofs.Words.{length}

abbrev pub decreases-spend_members : Rattle.iso_shared.proofs.shared.Shared.+spend_members.Given.decreases-spend_members
decreases-spend_members g l = length l.group.items
