-- The rows so far are trimmed.
use Rattle.mv_index.proofs.{Words.shown_since, Trims.AreTrimmed}

abbrev pub invariant-loop-row : Rattle.mv_index.proofs.index.MvIndex.trim_to.Given.invariant-loop-row
invariant-loop-row l = AreTrimmed (shown_since l.number) l.initial.row-items l.row-items l.dropped l.row-index
