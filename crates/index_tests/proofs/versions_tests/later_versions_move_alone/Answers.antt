-- The versions lie in the first 300 bytes.
use Rattle.std.proofs.Common.{arith}

pub move_to-requires-clause-room : Rattle.index_tests.proofs.versions_tests.later_versions_move_alone.Goals.move_to-requires-clause-room
move_to-requires-clause-room g c = (64, 300, c.in_ok-index.ensures.lie, omega arith)
