use Rattle.version_read.proofs.Above.{records_above}

pub returns : Rattle.version_read.proofs.laws.records_above_are_in_the_index.Goals.returns
returns _ = records_above
