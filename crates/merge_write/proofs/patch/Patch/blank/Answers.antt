-- A patch with no mask bit has no value.
use Rattle.merge_write.proofs.{Words.{arith, rules}, Values.blank_values}

pub returns : Rattle.merge_write.proofs.patch.Patch.blank.Goals.returns
returns c = search (rules, arith, blank_values)
