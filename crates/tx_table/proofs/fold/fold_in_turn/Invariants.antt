-- The rows so far are in what is read and what is written.
use Rattle.tx_table.proofs.Words.{map, IsFolded, Read, Write, access_of}

abbrev pub invariant-loop-at : Rattle.tx_table.proofs.fold.fold_in_turn.Given.invariant-loop-at
invariant-loop-at l = record {
  reads : IsFolded l.size l.blocks Read (map access_of l.rows) l.from l.at l.initial.reads l.reads;
  writes : IsFolded l.size l.blocks Write (map access_of l.rows) l.from l.at l.initial.writes l.writes;
}
