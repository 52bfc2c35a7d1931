-- The versions so far are moved to the front.
use Rattle.mv_index.proofs.Movings.{AreMoved}

abbrev pub invariant-loop-at : Rattle.mv_index.proofs.moving.gather_moved.Given.invariant-loop-at
invariant-loop-at l = AreMoved l.from l.to l.fn.versions l.versions l.at l.kept
