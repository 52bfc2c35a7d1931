use Rattle.merge_write.proofs.Words.{laid_written}

pub returns : Rattle.merge_write.proofs.laws.patches_write.Goals.returns
returns c = λ spans size block bytes same other. laid_written spans 0 size block bytes same other
