-- A crowd is halved, and each half is that of a thread.
use Rattle.std.proofs.Common.{◌*◌, ◌+◌}

abbrev pub decreases-crowd : Rattle.shared_tests.proofs.turn_tests.+crowd+fn-crowd-join+arg2+fn-crowd-join+arg3.Given.decreases-crowd
decreases-crowd g l = 3 * l.threads

abbrev pub decreases-join+arg2 : Rattle.shared_tests.proofs.turn_tests.+crowd+fn-crowd-join+arg2+fn-crowd-join+arg3.Given.decreases-join+arg2
decreases-join+arg2 g l = 3 * l.rest + 1

abbrev pub decreases-join+arg3 : Rattle.shared_tests.proofs.turn_tests.+crowd+fn-crowd-join+arg2+fn-crowd-join+arg3.Given.decreases-join+arg3
decreases-join+arg3 g l = 3 * l.half + 1
