use Rattle.iso_tree.proofs.{Words.{refl, Ok, false, Done, del_at, arith, behaves_next}, Descending.{behaves_answered, behaves_refused}, Facts.missing, Getting.{below_refused, del_missing, del_found}}
use Rattle.iso_tree.proofs.remove.remove_below.Goals as goal

pub returns-in-Err : goal.returns-in-Err
returns-in-Err g c = record {
  run = (let state = g.T.TxBlocks.state in
      below_refused (Done (Ok false)) c.args.root.area c.args.key.now false c.args.root.block c.args.root.level (del_at c.args.root.area c.args.key.now) c.if-root-eq0.false (λ block. refl) (state c.args.tx.now) (state c.descend.new.tx) c.descend.new.path c.descend.new.buffer c.in-Err.e c.in-Err.ensures.run);
  behaves = behaves_refused _ _ 1 _ _ _ (omega arith) c.in-Err.ensures.reads;
  known = c.in-Err.ensures.reads.known;
}

pub returns-in_default : goal.returns-in_default
returns-in_default g c = record { run = grind (arith, del_missing, missing) steps 100000; behaves = behaves_answered _ _ 1 _ _ _ _ c.in-Ok.ensures.reads; known = tt }

pub returns : goal.returns
returns g c = record {
  run = (let state = g.T.TxBlocks.state in
      del_found c.args.root.area c.args.key.now c.args.root.block c.args.root.level c.if-root-eq0.false (state c.args.tx.now) (state c.descend.new.tx) c.descend.new.path c.descend.new.buffer c.in-Ok.leaf c.in-Ok.ensures.leaf c.in-Ok.ensures.run
      c.in-Some.field-0 (state c.remove_cell.new.tx) c.remove_cell.result c.in-Some.is c.remove_cell.ensures.run);
  behaves = behaves_next c.in-Ok.ensures.reads.reads c.in-Ok.ensures.reads.later c.in-Ok.ensures.reads.passed c.remove_cell.ensures.behaves (omega arith);
  known = c.remove_cell.ensures.known;
}
