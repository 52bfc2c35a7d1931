use Rattle.iso_shared.proofs.Words.{length}

abbrev pub decreases-take_works : Rattle.iso_shared.proofs.works.+take_works.Given.decreases-take_works
decreases-take_works g l = length l.group.now
