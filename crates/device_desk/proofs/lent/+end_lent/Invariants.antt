use Rattle.iso_machine.proofs.Words.{length}

abbrev pub decreases-end_lent : Rattle.device_desk.proofs.lent.+end_lent.Given.decreases-end_lent
decreases-end_lent g l = length l.places.now
