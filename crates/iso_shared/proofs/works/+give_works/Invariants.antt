use Rattle.iso_shared.proofs.Words.{length}

abbrev pub decreases-give_works : Rattle.iso_shared.proofs.works.+give_works.Given.decreases-give_works
decreases-give_works g l = length l.group.now
