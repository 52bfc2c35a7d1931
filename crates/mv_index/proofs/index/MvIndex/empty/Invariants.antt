-- Rows without versions.
use Rattle.mv_index.proofs.Empties.{AreBlank}

abbrev pub invariant-loop : Rattle.mv_index.proofs.index.MvIndex.empty.Given.invariant-loop
invariant-loop l = AreBlank l.counter l.rows.items
