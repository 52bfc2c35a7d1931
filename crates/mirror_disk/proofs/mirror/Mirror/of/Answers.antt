use Rattle.mirror_disk.proofs.Words.{arith}

pub invariant_of-result : Rattle.mirror_disk.proofs.mirror.Mirror.of.Goals.invariant_of-result
invariant_of-result g c = grind arith
