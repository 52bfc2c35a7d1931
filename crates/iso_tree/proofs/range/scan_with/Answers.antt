use Rattle.iso_tree.proofs.{Words.{Err, inl, scan_below}, Descending.{reads_after, reads_refused}, Getting.head_refused, Scanning.{head_scanned, scan_run}}

pub returns-in-Err : Rattle.iso_tree.proofs.range.scan_with.Goals.returns-in-Err
returns-in-Err g c = record {
  run = (let state = g.T.TxBlocks.state in
      scan_run c.args.range.now.area c.args.range.now.from.now c.args.range.now.to.now c.args.range.now.max (state c.args.tx.now) (state c.read_head.new.tx) (Err c.in-Err.e) c.args.range.now.keys
      (inl (head_refused c.args.range.now.area (scan_below c.args.range.now.area c.args.range.now.from.now c.args.range.now.to.now c.args.range.now.max) (state c.args.tx.now) (state c.read_head.new.tx) c.in-Err.e c.in-Err.ensures.run)));
  reads = reads_refused _ _ _ _ _ c.in-Err.ensures.reads;
}

pub returns-in-Ok : Rattle.iso_tree.proofs.range.scan_with.Goals.returns-in-Ok
returns-in-Ok g c = record {
  run = (let state = g.T.TxBlocks.state in
      scan_run c.args.range.now.area c.args.range.now.from.now c.args.range.now.to.now c.args.range.now.max (state c.args.tx.now) (state c.scan_below.new.tx) c.scan_below.result c.args.range.now.keys
      (head_scanned c.args.range.now.area (scan_below c.args.range.now.area c.args.range.now.from.now c.args.range.now.to.now c.args.range.now.max) (state c.args.tx.now) (state c.read_head.new.tx) (state c.scan_below.new.tx) (c.in-Ok.root, c.in-Ok.level) c.scan_below.result c.in-Ok.ensures.run c.scan_below.ensures.run));
  reads = reads_after _ _ _ _ _ _ _ c.in-Ok.ensures.reads.reads c.in-Ok.ensures.reads.later c.in-Ok.ensures.reads.passed c.scan_below.ensures.reads;
}
