-- The rows at the places so far are in what is read and what is written.
use Rattle.tx_table.proofs.Words.{take, ArePlacesTouched, Read, Write}

abbrev pub invariant-loop-entry : Rattle.tx_table.proofs.fold.fold_places.Given.invariant-loop-entry
invariant-loop-entry l = record {
  reads : ArePlacesTouched l.size Read l.rows (take l.entry-index l.order) l.initial.reads l.reads;
  writes : ArePlacesTouched l.size Write l.rows (take l.entry-index l.order) l.initial.writes l.writes;
}
