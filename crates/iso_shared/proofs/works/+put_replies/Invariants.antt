use Rattle.iso_shared.proofs.Words.{length}

abbrev pub decreases-put_replies : Rattle.iso_shared.proofs.works.+put_replies.Given.decreases-put_replies
decreases-put_replies l = length l.ends.now
