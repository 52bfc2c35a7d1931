use Rattle.iso_hash.proofs.{Words.{arith, behaves_next}, Getting.{walked_cell, walked_end, walk_refuses}, Storing.{put_from, put_error}}
use Rattle.iso_hash.proofs.insert.put_with.Goals as goal

pub returns-in-Ok-AtCell : goal.returns-in-Ok-AtCell
returns-in-Ok-AtCell g c = record {
  run = grind (arith, put_from, walked_cell);
  behaves = behaves_next c.in-Ok-AtCell.ensures.leaves.reads c.in-Ok-AtCell.ensures.leaves.later c.in-Ok-AtCell.ensures.leaves.passed c.put_value.ensures.behaves (omega arith);
}

pub returns-in-Ok-AtEnd : goal.returns-in-Ok-AtEnd
returns-in-Ok-AtEnd g c = record {
  run = grind (arith, put_from, walked_end);
  behaves = behaves_next c.in-Ok-AtEnd.ensures.leaves.reads c.in-Ok-AtEnd.ensures.leaves.later c.in-Ok-AtEnd.ensures.leaves.passed c.put_missing.ensures.behaves (omega arith);
}

pub returns-in-Err : goal.returns-in-Err
returns-in-Err g c = record {
  run = (let state = g.T.TxBlocks.state in
      put_error c.args.key.now.area c.args.key.now.bytes.now c.args.value.now (state c.args.tx.now) (state c.walk.new.tx) c.walk.new.buffer c.in-Err.e c.args.key.now.good c.requires.value c.in-Err.ensures.walked);
  behaves = walk_refuses c.args.key.now.area c.args.key.now.bytes.now c.walk.new.buffer c.in-Err.e c.in-Err.ensures.walked c.in-Err.ensures.leaves.reads c.in-Err.ensures.leaves.cause c.in-Err.ensures.leaves.later (omega arith);
}
