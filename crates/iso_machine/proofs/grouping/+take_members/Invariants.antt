use Rattle.iso_machine.proofs.Words.{length}

abbrev pub decreases-take_members : Rattle.iso_machine.proofs.grouping.+take_members.Given.decreases-take_members
decreases-take_members l = length l.labels.now
