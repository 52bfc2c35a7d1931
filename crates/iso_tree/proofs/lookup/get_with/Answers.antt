use Rattle.iso_tree.proofs.{Words.{arith, Err, get_below}, Descending.{reads_after, reads_refused}, Getting.{head_then, head_refused, get_run}}

pub returns-in-Err : Rattle.iso_tree.proofs.lookup.get_with.Goals.returns-in-Err
returns-in-Err g c = record {
  run = (let state = g.T.TxBlocks.state in
      get_run c.args.area c.args.key.now (state c.args.tx.now) (state c.read_head.new.tx) (Err c.in-Err.e) c.requires.key
      (head_refused c.args.area (get_below c.args.area c.args.key.now) (state c.args.tx.now) (state c.read_head.new.tx) c.in-Err.e c.in-Err.ensures.run));
  reads = reads_refused _ _ _ _ _ c.in-Err.ensures.reads;
}

pub returns-in-Ok : Rattle.iso_tree.proofs.lookup.get_with.Goals.returns-in-Ok
returns-in-Ok g c = record {
  run = grind (arith, get_run, head_then);
  reads = reads_after _ _ _ _ _ _ _ c.in-Ok.ensures.reads.reads c.in-Ok.ensures.reads.later c.in-Ok.ensures.reads.passed c.get_below.ensures.reads;
}
