use Rattle.iso_core.proofs.Words.{length}

abbrev pub decreases-leave_each : Rattle.iso_core.proofs.taking.+leave_each.Given.decreases-leave_each
decreases-leave_each l = length l.group.now
