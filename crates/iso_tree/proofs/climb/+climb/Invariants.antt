use Rattle.iso_tree.proofs.Words.{length}

abbrev pub decreases-climb : Rattle.iso_tree.proofs.climb.+climb.Given.decreases-climb
decreases-climb g l = length l.way.now.path.now
