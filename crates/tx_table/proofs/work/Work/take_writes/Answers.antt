-- Nothing is in what is touched any more.
use Rattle.tx_table.proofs.{Words.{arith}, Applied.none_touched}

pub invariant_of-self : Rattle.tx_table.proofs.work.Work.take_writes.Goals.invariant_of-self
invariant_of-self c = grind (arith, none_touched)
