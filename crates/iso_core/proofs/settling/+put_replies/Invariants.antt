use Rattle.iso_core.proofs.Words.{length}

abbrev pub decreases-put_replies : Rattle.iso_core.proofs.settling.+put_replies.Given.decreases-put_replies
decreases-put_replies l = length l.replies.now
