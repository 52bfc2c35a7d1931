use Rattle.iso_machine.proofs.Words.{length}

abbrev pub decreases-find_places : Rattle.device_desk.proofs.places.+find_places.Given.decreases-find_places
decreases-find_places l = length l.numbers.now
