use Rattle.iso_shared.proofs.{Words.{arith}, Mades.held_same}

pub returns-clause-tx : Rattle.iso_shared.proofs.shared.Shared.tell_port.Goals.returns-clause-tx
returns-clause-tx g c = grind (arith, held_same)
