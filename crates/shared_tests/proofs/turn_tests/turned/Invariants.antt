use Rattle.std.proofs.Common.{◌≡◌}
use Rattle.turn_lock.specs.{Lock.lock_id, Pass.{view, HasNoTurn}}

-- a pass of the lock at rest, with the same units
abbrev pub invariant-loop-turn : Rattle.shared_tests.proofs.turn_tests.turned.Given.invariant-loop-turn
invariant-loop-turn g l = (l.pass.table_id ≡ lock_id l.lock) × HasNoTurn l.pass × ((view l.pass).units ≡ (view l.initial.pass).units)
