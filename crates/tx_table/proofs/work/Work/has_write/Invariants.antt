-- No write so far.
use Rattle.tx_table.proofs.Words.{◌≡◌, false, take, has_write}

abbrev pub invariant-loop-row : Rattle.tx_table.proofs.work.Work.has_write.Given.invariant-loop-row
invariant-loop-row l = has_write (take l.row-index l.self.accesses) ≡ false
