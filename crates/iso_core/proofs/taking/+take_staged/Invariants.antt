use Rattle.iso_core.proofs.Words.{length}

abbrev pub decreases-take_staged : Rattle.iso_core.proofs.taking.+take_staged.Given.decreases-take_staged
decreases-take_staged l = length l.staged.now
