use Rattle.iso_machine.proofs.Words.{◌-◌, length}

abbrev pub decreases-loop-alloc : Rattle.iso_machine.proofs.grouping.make_places.Given.decreases-loop-alloc
decreases-loop-alloc l = l.count - length l.ends.items
