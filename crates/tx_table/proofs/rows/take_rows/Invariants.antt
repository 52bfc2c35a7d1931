-- Each turn takes one row.
use Rattle.tx_table.proofs.Words.{length}

abbrev pub decreases-loop-row : Rattle.tx_table.proofs.rows.take_rows.Given.decreases-loop-row
decreases-loop-row l = length l.rows.items
