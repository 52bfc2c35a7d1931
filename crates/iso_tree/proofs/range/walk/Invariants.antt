use Rattle.iso_tree.proofs.Words.{◌≡◌, ◌-◌, [], length, IsLater, HasRead, IsAt, AreIn, left_of}

-- the unread nodes are what is left of the walk
abbrev pub invariant-loop-alloc : Rattle.iso_tree.proofs.range.walk.Given.invariant-loop-alloc
invariant-loop-alloc g l = record {
  here : IsAt (left_of l.range l.fn.unread []) (left_of l.range l.unread l.found) (g.T.TxBlocks.state l.fn.tx) (g.T.TxBlocks.state l.tx);
  nodes : AreIn l.range.area l.unread;
  reads : HasRead (g.T.TxBlocks.state l.fn.tx) (g.T.TxBlocks.state l.tx);
  later : IsLater (g.T.TxBlocks.device l.fn.tx) (g.T.TxBlocks.device l.tx);
  passed : (g.T.TxBlocks.device l.tx).faults ≡ (g.T.TxBlocks.device l.fn.tx).faults;
}

abbrev pub decreases-loop-alloc : Rattle.iso_tree.proofs.range.walk.Given.decreases-loop-alloc
decreases-loop-alloc g l = 4096 - length (g.T.TxBlocks.state l.tx).accesses
