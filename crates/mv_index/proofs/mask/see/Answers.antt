-- The bytes before the first that was not seen are seen already.
use Rattle.mv_index.proofs.{Words.{arith, not}, Masks.{any_from, widened}}

pub returns-clause-some : Rattle.mv_index.proofs.mask.see.Goals.returns-clause-some
returns-clause-some c = grind (arith, any_from, not)

pub returns-clause-marked : Rattle.mv_index.proofs.mask.see.Goals.returns-clause-marked
returns-clause-marked c p below = grind (arith, widened)
