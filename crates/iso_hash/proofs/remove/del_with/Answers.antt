use Rattle.iso_hash.proofs.{Words.{◌≡◌, ◌∙◌, sym, ap, true, false, cond, ◌+◌, ◌*◌, ℕ, Bool, List, [], Ok, take, Result, arith, StoreError, keys_end, walk, is_spent, del_program, Tx, Ran, HasRun, behaves_next, ran_done}, Getting.{walked_cell, walked_end, walk_refuses}, Changes.{give_back_block, make_zero}, Storing.{del_from, del_error, del_there}, remove.del_with.Goals.After-is_spent}
use Rattle.store_model.specs.HashCalls as hash
use Rattle.iso_hash.proofs.remove.del_with.Goals as goal

-- the cell where the walk ends, and whether its block is given back
module _ (g : Rattle.iso_hash.proofs.remove.del_with.Given.Over) (c : After-is_spent g) where
  abbrev keys : List ℕ
  keys = take (keys_end c.args.key.now.area.size) c.walk.new.buffer

  walked : Ran (walk c.args.key.now.area c.args.key.now.bytes.now false) (g.T.TxBlocks.state c.args.tx.now) (g.T.TxBlocks.state c.walk.new.tx) (hash.AtCell c.in-Ok-AtCell.spot c.in-Ok-AtCell.before keys [])
  walked = walked_cell c.args.key.now.area c.args.key.now.bytes.now false (g.T.TxBlocks.state c.args.tx.now) (g.T.TxBlocks.state c.walk.new.tx) c.walk.new.buffer c.in-Ok-AtCell.field-0 c.in-Ok-AtCell.spot c.in-Ok-AtCell.before c.in-Ok-AtCell.ensures.walked c.in-Ok-AtCell.field-0-is

  spent : is_spent c.args.key.now.area c.in-Ok-AtCell.spot keys ≡ c.is_spent.result
  spent = ap (λ (n : ℕ). is_spent c.args.key.now.area c.in-Ok-AtCell.spot (take (64 + 31 * n) c.walk.new.buffer)) (sym c.cell_count.ensures) ∙ sym c.is_spent.ensures

  goes_on : (b : Bool) → c.is_spent.result ≡ b → (v : Tx) (result : Result Bool StoreError)
      → HasRun (cond b (give_back_block c.args.key.now.area c.in-Ok-AtCell.spot c.in-Ok-AtCell.before) (make_zero c.args.key.now.area c.in-Ok-AtCell.spot)) (g.T.TxBlocks.state c.walk.new.tx) v result
      → HasRun (del_program c.args.key.now.area c.args.key.now.bytes.now) (g.T.TxBlocks.state c.args.tx.now) v result
  goes_on b is v result run =
      let state = g.T.TxBlocks.state in
      del_from c.args.key.now.area c.args.key.now.bytes.now (state c.args.tx.now) (state c.walk.new.tx) v _ result c.args.key.now.good walked (del_there c.args.key.now.area c.in-Ok-AtCell.spot c.in-Ok-AtCell.before keys [] b (state c.walk.new.tx) v result (spent ∙ is) run)

pub returns-then-is_spent : goal.returns-then-is_spent
returns-then-is_spent g c = record {
  run = goes_on g (goal.at.returns-then-is_spent g c).After-is_spent true c.if-is_spent.true (g.T.TxBlocks.state c.del_block.new.tx) c.del_block.result c.del_block.ensures.run;
  behaves = behaves_next c.in-Ok-AtCell.ensures.leaves.reads c.in-Ok-AtCell.ensures.leaves.later c.in-Ok-AtCell.ensures.leaves.passed c.del_block.ensures.behaves (omega arith);
}

pub returns-else-is_spent : goal.returns-else-is_spent
returns-else-is_spent g c = record {
  run = goes_on g (goal.at.returns-else-is_spent g c).After-is_spent false c.if-is_spent.false (g.T.TxBlocks.state c.clear_cell.new.tx) c.clear_cell.result c.clear_cell.ensures.run;
  behaves = behaves_next c.in-Ok-AtCell.ensures.leaves.reads c.in-Ok-AtCell.ensures.leaves.later c.in-Ok-AtCell.ensures.leaves.passed c.clear_cell.ensures.behaves (omega arith);
}

pub returns-in-Ok-AtEnd : goal.returns-in-Ok-AtEnd
returns-in-Ok-AtEnd g c = record {
  run = (let state = g.T.TxBlocks.state in
      del_from c.args.key.now.area c.args.key.now.bytes.now (state c.args.tx.now) (state c.walk.new.tx) (state c.walk.new.tx) (hash.AtEnd c.in-Ok-AtEnd.field-0-0 c.in-Ok-AtEnd.field-0-1 c.in-Ok-AtEnd.field-0-2) (Ok false) c.args.key.now.good
      (walked_end c.args.key.now.area c.args.key.now.bytes.now false (state c.args.tx.now) (state c.walk.new.tx) c.walk.new.buffer c.in-Ok-AtEnd.field-0 c.in-Ok-AtEnd.field-0-0 c.in-Ok-AtEnd.field-0-1 c.in-Ok-AtEnd.field-0-2 c.in-Ok-AtEnd.ensures.walked c.in-Ok-AtEnd.field-0-is)
      (ran_done (Ok false) (state c.walk.new.tx)));
  behaves = grind arith;
}

pub returns-in-Err : goal.returns-in-Err
returns-in-Err g c = record {
  run = (let state = g.T.TxBlocks.state in
      del_error c.args.key.now.area c.args.key.now.bytes.now (state c.args.tx.now) (state c.walk.new.tx) c.walk.new.buffer c.in-Err.e c.args.key.now.good c.in-Err.ensures.walked);
  behaves = walk_refuses c.args.key.now.area c.args.key.now.bytes.now c.walk.new.buffer c.in-Err.e c.in-Err.ensures.walked c.in-Err.ensures.leaves.reads c.in-Err.ensures.leaves.cause c.in-Err.ensures.leaves.later (omega arith);
}
