use Rattle.iso_fs.proofs.{Words.{arith}, Files.{entry_handed, file_parts}, RemoveSteps.{entries_step}}

pub give_back-requires-clause-block : Rattle.iso_fs.proofs.left.give_data.Goals.give_back-requires-clause-block
give_back-requires-clause-block c = grind (arith, entry_handed, file_parts) steps 100000

pub loop-i-preserved : Rattle.iso_fs.proofs.left.give_data.Goals.loop-i-preserved
loop-i-preserved c = grind (arith, entries_step) steps 100000
