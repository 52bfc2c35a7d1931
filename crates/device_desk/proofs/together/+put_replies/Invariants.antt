use Rattle.iso_machine.proofs.Words.{length}

abbrev pub decreases-put_replies : Rattle.device_desk.proofs.together.+put_replies.Given.decreases-put_replies
decreases-put_replies l = length l.ends.now
