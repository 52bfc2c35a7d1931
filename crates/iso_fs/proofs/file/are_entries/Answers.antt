use Rattle.iso_fs.proofs.Words.{arith, all_fails, all_goes_on}

pub returns-then-not-is_handed : Rattle.iso_fs.proofs.file.are_entries.Goals.returns-then-not-is_handed
returns-then-not-is_handed c = grind (arith, all_fails) steps 100000

pub loop-i-preserved : Rattle.iso_fs.proofs.file.are_entries.Goals.loop-i-preserved
loop-i-preserved c = grind (arith, all_goes_on) steps 100000
