use Rattle.iso_tree.proofs.Words.{arith, first_found, first_goes_on}

pub returns-then-are_same-clause-value : Rattle.iso_tree.proofs.keys.cell_of.Goals.returns-then-are_same-clause-value
returns-then-are_same-clause-value c = grind (arith, first_found)

pub loop-cell-preserved : Rattle.iso_tree.proofs.keys.cell_of.Goals.loop-cell-preserved
loop-cell-preserved c = grind (arith, first_goes_on)
