-- Nothing is done.
use Rattle.tx_table.proofs.{Words.{arith, no_effects}, Applied.none_touched}

pub invariant_of-result : Rattle.tx_table.proofs.work.Work.begin.Goals.invariant_of-result
invariant_of-result c = grind (arith, no_effects, none_touched)
