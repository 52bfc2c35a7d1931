use Rattle.iso_fs.proofs.{Words.{arith}, Files.count_fits}

pub returns-clause-fits : Rattle.iso_fs.proofs.file.data_count.Goals.returns-clause-fits
returns-clause-fits c = grind (arith, count_fits) steps 100000
