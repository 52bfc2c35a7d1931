-- No block is after the last.
use Rattle.byte_marks.proofs.{Words.{arith}, Blocks.last_block}

pub returns : Rattle.byte_marks.proofs.touched.is_behind.Goals.returns
returns c k lt d = grind (arith, last_block)
