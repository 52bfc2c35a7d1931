use Rattle.iso_log.proofs.{Words.{arith}, Counts.{none_counted, one_counted, all_counted}}

pub loop-rest-init : Rattle.iso_log.proofs.count.count_records.Goals.loop-rest-init
loop-rest-init c = grind (arith, none_counted)

pub loop-rest-preserved : Rattle.iso_log.proofs.count.count_records.Goals.loop-rest-preserved
loop-rest-preserved c = grind (arith, one_counted)

pub returns : Rattle.iso_log.proofs.count.count_records.Goals.returns
returns c = λ g n more is. all_counted g n more c.loop-rest.count c.loop-rest.rest.now (c.loop-rest.invariant.left g n more is) c.loop-rest-test.false
