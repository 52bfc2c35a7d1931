use Rattle.iso_tree.proofs.Words.{arith}

pub full_row-requires : Rattle.iso_tree.proofs.enlarge.+full_row.Goals.full_row-requires
full_row-requires t c = grind arith steps 100000
