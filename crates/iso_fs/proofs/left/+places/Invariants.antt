use Rattle.iso_fs.proofs.Words.{◌-◌}

abbrev pub decreases-places : Rattle.iso_fs.proofs.left.+places.Given.decreases-places
decreases-places l = l.count - l.i
