-- A word more has the bits of both.
use Rattle.merge_write.proofs.{Words.{arith}, Bits.{with_word_here, with_word_apart}}

pub loop-word-preserved : Rattle.merge_write.proofs.masks.join_bits.Goals.loop-word-preserved
loop-word-preserved c = grind (arith, with_word_apart, with_word_here)
