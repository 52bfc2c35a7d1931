use Rattle.iso_machine.proofs.Words.{length}

abbrev pub decreases-leave : Rattle.device_desk.proofs.places.+leave.Given.decreases-leave
decreases-leave l = length l.numbers.now
