-- The rows so far are moved.
use Rattle.mv_index.proofs.{Words.moved_to, Trims.AreTrimmed}

abbrev pub invariant-loop-row : Rattle.mv_index.proofs.index.MvIndex.move_to.Given.invariant-loop-row
invariant-loop-row l = AreTrimmed (moved_to l.from l.to) l.initial.row-items l.row-items l.gone l.row-index
