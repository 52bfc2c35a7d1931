use Rattle.iso_hash.proofs.Words.{◌≡◌, ◌-◌, ◌<◌, IfSome, walk, walk_from, IsLater, HasRead, IsAt, IsSpot}

-- the blocks of the chain that are left are what is left of the walk
abbrev pub invariant-loop-position : Rattle.iso_hash.proofs.walk.walk.Given.invariant-loop-position
invariant-loop-position g l = record {
  here : IsAt (walk l.key.area l.key.bytes.now l.with_value) (walk_from l.key.area l.key.bytes.now l.key.bucket l.with_value (l.position-end - l.position) l.position l.before l.block l.spare) (g.T.TxBlocks.state l.fn.tx) (g.T.TxBlocks.state l.tx);
  inside : l.block < l.key.area.blocks;
  before : l.before < l.key.area.blocks;
  spare : IfSome l.spare (IsSpot l.key.area);
  reads : HasRead (g.T.TxBlocks.state l.fn.tx) (g.T.TxBlocks.state l.tx);
  later : IsLater (g.T.TxBlocks.device l.fn.tx) (g.T.TxBlocks.device l.tx);
  passed : (g.T.TxBlocks.device l.tx).faults ≡ (g.T.TxBlocks.device l.fn.tx).faults;
}
