use Rattle.std.proofs.Common.{length}

abbrev pub decreases-abort_all : Rattle.shared_tests.proofs.groups.+abort_all.Given.decreases-abort_all
decreases-abort_all g l = length l.group.items
