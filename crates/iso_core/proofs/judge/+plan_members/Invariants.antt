use Rattle.iso_core.proofs.Words.{length}

abbrev pub decreases-plan_members : Rattle.iso_core.proofs.judge.+plan_members.Given.decreases-plan_members
decreases-plan_members l = length l.group.now
