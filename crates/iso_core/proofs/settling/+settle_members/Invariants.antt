use Rattle.iso_core.proofs.Words.{length}

abbrev pub decreases-settle_members : Rattle.iso_core.proofs.settling.+settle_members.Given.decreases-settle_members
decreases-settle_members l = length l.ends.now
