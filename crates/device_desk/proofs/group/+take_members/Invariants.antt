use Rattle.iso_machine.proofs.Words.{length}

abbrev pub decreases-take_members : Rattle.device_desk.proofs.group.+take_members.Given.decreases-take_members
decreases-take_members l = length l.numbers.now
