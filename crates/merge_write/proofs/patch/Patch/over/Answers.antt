-- There are as many bytes as values.
use Rattle.merge_write.proofs.{Words.{arith, rules}, Values.length-values_from}

pub lay-requires-clause-into : Rattle.merge_write.proofs.patch.Patch.over.Goals.lay-requires-clause-into
lay-requires-clause-into c = search (rules, arith, length-values_from)
