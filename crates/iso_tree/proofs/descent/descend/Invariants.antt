use Rattle.iso_tree.proofs.Words.{◌≡◌, ◌-◌, ◌<◌, [], length, AreInside, descend, IsLater, HasRead, IsAt}

-- the levels that are left are what is left of the descent
abbrev pub invariant-loop-passed : Rattle.iso_tree.proofs.descent.descend.Given.invariant-loop-passed
invariant-loop-passed g l = record {
  here : IsAt (descend l.root.area l.key l.with_value l.root.level l.root.block []) (descend l.root.area l.key l.with_value (l.root.level - l.passed) l.block l.path) (g.T.TxBlocks.state l.fn.tx) (g.T.TxBlocks.state l.tx);
  inside : l.block < l.root.area.blocks;
  long : length l.path ≡ l.passed;
  path_in : AreInside l.root.area l.path;
  reads : HasRead (g.T.TxBlocks.state l.fn.tx) (g.T.TxBlocks.state l.tx);
  later : IsLater (g.T.TxBlocks.device l.fn.tx) (g.T.TxBlocks.device l.tx);
  passed : (g.T.TxBlocks.device l.tx).faults ≡ (g.T.TxBlocks.device l.fn.tx).faults;
}
