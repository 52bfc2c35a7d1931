use Rattle.iso_log.proofs.{Words.{arith}, Pieces.{range_behind, range_size}}

pub returns : Rattle.iso_log.proofs.ahead.ReadAhead.pass.Goals.returns
returns c = grind (arith, range_size, range_behind)
