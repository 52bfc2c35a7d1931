use Rattle.iso_tree.proofs.{Words.{◌∙◌, arith, ap, subst, ℕ, ◌+◌, ◌-◌, List, [], Store, Program, Answer, Cell, cell_count, half, node_bytes, row, emptied, IsFollowed, Err, spelled, Growth}, Climbing.{follows, written_two}, Filling.{growth_fits, length-row}}
use Rattle.iso_tree.proofs.climb.store_halves.Goals as goal

-- the two nodes, by the count that the code has
abbrev left_of : Growth → (n : ℕ) → List Cell
left_of w n = row w 0 (half n)

abbrev right_of : Growth → (level n : ℕ) → List Cell
right_of w level n = emptied level (row w (half n) (n + 1 - half n))

pub returns-in-Err : goal.returns-in-Err
returns-in-Err g c = record {
  run = λ rest.
      let w = c.args.growth.now in
      let level = c.args.level in
      let left = c.fill_row.ensures ∙ ap (λ (n : ℕ). node_bytes w.area.size level (left_of w n)) c.cell_count-cells.ensures in
      let next = Store (w.area.start + c.args.new) [] (node_bytes w.area.size level (right_of w level (cell_count w.area.size))) rest in
      subst (λ (b : List ℕ). IsFollowed (Store (w.area.start + c.args.block) [] b next) rest (g.T.TxBlocks.state c.args.tx.now) (g.T.TxBlocks.state c.store_next.new.tx) (Err c.in-Err.e)) left (c.in-Err.ensures.run next);
  after = tt;
  only = c.in-Err.ensures.only;
}

pub returns : goal.returns
returns g c = record {
  run = λ rest.
      let state = g.T.TxBlocks.state in
      let w = c.args.growth.now in
      let a = w.area in
      let level = c.args.level in
      let n = cell_count a.size in
      let left = c.fill_row.ensures ∙ ap (λ (n : ℕ). node_bytes a.size level (left_of w n)) c.cell_count-cells.ensures in
      let many = c.cell_count-cells.result in
      let others = row w (half many) (many + 1 - half many) in
      let fits = growth_fits w (half many) (many + 1 - half many) (omega (arith, c.cell_count-cells.ensures)) in
      let right = c.empty_first.ensures a.size others c.fill_row-2.ensures (omega (arith, length-row a.size w.node.now w.place (spelled w.entry.now) (half many) (many + 1 - half many))) fits
      ∙ ap (λ (n : ℕ). node_bytes a.size level (right_of w level n)) c.cell_count-cells.ensures in
      let whole : List ℕ → List ℕ → Program Answer = λ b d. Store (a.start + c.args.block) [] b (Store (a.start + c.args.new) [] d rest) in
      subst (λ (d : List ℕ). IsFollowed (whole (node_bytes a.size level (left_of w n)) d) rest (state c.args.tx.now) (state c.store_next-2.new.tx) c.store_next-2.result) right
      (subst (λ (b : List ℕ). IsFollowed (whole b c.empty_first.new.into) rest (state c.args.tx.now) (state c.store_next-2.new.tx) c.store_next-2.result) left
      (follows (whole c.fill_row.new.into c.empty_first.new.into) (Store (a.start + c.args.new) [] c.empty_first.new.into rest) rest (state c.args.tx.now) (state c.store_next.new.tx) (state c.store_next-2.new.tx) c.store_next-2.result
      (c.in_default.ensures.run (Store (a.start + c.args.new) [] c.empty_first.new.into rest)) (c.store_next-2.ensures.run rest)));
  after = written_two (g.T.TxBlocks.state c.args.tx.now) (g.T.TxBlocks.state c.store_next.new.tx) (g.T.TxBlocks.state c.store_next-2.new.tx) c.store_next-2.result c.in_default.ensures.after c.store_next-2.ensures.after;
  only = record { memory = c.store_next-2.ensures.only.memory; device = c.store_next-2.ensures.only.device ∙ c.in_default.ensures.only.device };
}
