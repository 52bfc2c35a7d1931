-- Nothing is done any more.
use Rattle.tx_table.proofs.{Words.{arith, no_effects}, Applied.none_touched}

pub invariant_of-self : Rattle.tx_table.proofs.work.Work.restart.Goals.invariant_of-self
invariant_of-self c = grind (arith, no_effects, none_touched)
