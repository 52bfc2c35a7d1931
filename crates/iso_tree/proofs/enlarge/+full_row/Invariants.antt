use Rattle.iso_tree.proofs.Words.{length}

abbrev pub decreases-full_row : Rattle.iso_tree.proofs.enlarge.+full_row.Given.decreases-full_row
decreases-full_row l = length l.path.now
