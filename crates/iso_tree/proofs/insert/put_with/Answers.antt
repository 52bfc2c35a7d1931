use Rattle.iso_tree.proofs.{Words.{Err, arith, put_below_root, behaves_next}, Descending.behaves_refused, Getting.{head_then, head_refused, put_run}}

pub returns-in-Ok : Rattle.iso_tree.proofs.insert.put_with.Goals.returns-in-Ok
returns-in-Ok g c = record {
  run = grind (arith, put_run, head_then) steps 100000;
  behaves = behaves_next c.in-Ok.ensures.reads.reads c.in-Ok.ensures.reads.later c.in-Ok.ensures.reads.passed c.put_below.ensures.behaves (omega arith);
}

pub returns-in-Err : Rattle.iso_tree.proofs.insert.put_with.Goals.returns-in-Err
returns-in-Err g c = record {
  run = (let state = g.T.TxBlocks.state in
      put_run c.args.area c.args.key.now c.args.value.now (state c.args.tx.now) (state c.read_head.new.tx) (Err c.in-Err.e) c.requires.key c.requires.value
      (head_refused c.args.area (put_below_root c.args.area c.args.key.now c.args.value.now) (state c.args.tx.now) (state c.read_head.new.tx) c.in-Err.e c.in-Err.ensures.run));
  behaves = behaves_refused _ _ 66 _ _ _ (omega arith) c.in-Err.ensures.reads;
}
