use Rattle.iso_tree.proofs.{Words.{subst, ℕ, ◌+◌, List, [], Ok, Done, Store, HasRun}, Climbing.followed_end}

pub returns : Rattle.iso_tree.proofs.climb.store_grown.Goals.returns
returns g c = record {
  run = (let state = g.T.TxBlocks.state in
      subst (λ (b : List ℕ). HasRun (Store (c.args.growth.now.area.start + c.args.block) [] b (Done (Ok tt))) (state c.args.tx.now) (state c.store_next.new.tx) c.store_next.result)
      c.fill_row.ensures (followed_end _ (state c.args.tx.now) (state c.store_next.new.tx) c.store_next.result (c.store_next.ensures.run (Done (Ok tt)))));
  only = c.store_next.ensures.only;
}
