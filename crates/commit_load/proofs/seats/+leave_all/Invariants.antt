use Rattle.std.proofs.Common.{length}

abbrev pub decreases-leave_all : Rattle.commit_load.proofs.seats.+leave_all.Given.decreases-leave_all
decreases-leave_all g l = length l.desks.items
