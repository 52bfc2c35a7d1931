use Rattle.iso_machine.proofs.Words.{length}

abbrev pub decreases-is_other : Rattle.device_desk.proofs.places.+is_other.Given.decreases-is_other
decreases-is_other l = length l.others.now
