use Rattle.iso_tree.proofs.{Words.{Err, arith, del_below, behaves_next}, Descending.behaves_refused, Getting.{head_then, head_refused, del_run}}
use Rattle.iso_tree.proofs.remove.remove_with.Goals as goal

pub returns-in-Ok : goal.returns-in-Ok
returns-in-Ok g c = record {
  run = grind (arith, del_run, head_then) steps 100000;
  behaves = behaves_next c.in-Ok.ensures.reads.reads c.in-Ok.ensures.reads.later c.in-Ok.ensures.reads.passed c.remove_below.ensures.behaves (omega arith);
  known = c.remove_below.ensures.known;
}

pub returns-in-Err : goal.returns-in-Err
returns-in-Err g c = record {
  run = (let state = g.T.TxBlocks.state in
      del_run c.args.area c.args.key.now (state c.args.tx.now) (state c.read_head.new.tx) (Err c.in-Err.e) c.requires.key
      (head_refused c.args.area (del_below c.args.area c.args.key.now) (state c.args.tx.now) (state c.read_head.new.tx) c.in-Err.e c.in-Err.ensures.run));
  behaves = behaves_refused _ _ 1 _ _ _ (omega arith) c.in-Err.ensures.reads;
  known = c.in-Err.ensures.reads.known;
}
