use Rattle.merge_write.proofs.{Bits.other_bits, Words.arith}

pub returns-else-wanted : Rattle.merge_write.proofs.masks.wanted_bits.Goals.returns-else-wanted
returns-else-wanted c k below = rw (c.if-wanted.false) (other_bits c.args.word k (omega arith) below)
