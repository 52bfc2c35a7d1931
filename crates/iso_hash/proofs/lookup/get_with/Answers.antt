use Rattle.iso_hash.proofs.{Words.{arith}, Getting.{walked_cell, walked_end, get_at_end, get_error, call_local, part_is, answers_value, answers_broken, walk_known}}
use Rattle.iso_hash.proofs.lookup.get_with.Goals as goal

pub returns-then-not-is_part-clause-ended : goal.returns-then-not-is_part-clause-ended
returns-then-not-is_part-clause-ended g c = grind (arith, part_is, answers_broken, walked_cell)

pub returns-else-not-is_part-clause-ended : goal.returns-else-not-is_part-clause-ended
returns-else-not-is_part-clause-ended g c = grind (arith, part_is, answers_value, walked_cell)

pub returns-else-not-is_part-clause-local : goal.returns-else-not-is_part-clause-local
returns-else-not-is_part-clause-local g c = grind (arith, part_is, call_local, answers_value, walked_cell)

pub returns-in-Ok-AtEnd-clause-ended : goal.returns-in-Ok-AtEnd-clause-ended
returns-in-Ok-AtEnd-clause-ended g c = grind (arith, get_at_end, walked_end)

pub returns-in-Ok-AtEnd-clause-local : goal.returns-in-Ok-AtEnd-clause-local
returns-in-Ok-AtEnd-clause-local g c = grind (arith, call_local, get_at_end, walked_end)

pub returns-in-Err-clause-ended : goal.returns-in-Err-clause-ended
returns-in-Err-clause-ended g c =
    let state = g.T.TxBlocks.state in
    get_error c.args.key.now.area c.args.key.now.bytes.now (state c.args.tx.now) (state c.walk.new.tx) c.walk.new.buffer c.in-Err.e c.args.key.now.good c.in-Err.ensures.walked

pub returns-in-Err-clause-known : goal.returns-in-Err-clause-known
returns-in-Err-clause-known g c = grind (arith, walk_known)
