-- A word of masks more is 64 bytes more.
use Rattle.merge_write.proofs.{Values.{length-values_from, values_here}, Words.{rules, laid_is, unwrap_cond, arith}}

pub loop-word-preserved : Rattle.merge_write.proofs.lanes.lay.Goals.loop-word-preserved
loop-word-preserved c = grind arith

pub returns : Rattle.merge_write.proofs.lanes.lay.Goals.returns
returns c = search (rules, arith, laid_is, length-values_from, values_here, unwrap_cond)
