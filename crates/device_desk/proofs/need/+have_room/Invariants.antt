use Rattle.iso_machine.proofs.Words.{length}

abbrev pub decreases-have_room : Rattle.device_desk.proofs.need.+have_room.Given.decreases-have_room
decreases-have_room l = length l.places.now
