use Rattle.iso_fs.proofs.{Words.{◌≡◌, ◌-◌, ◌≤◌, [], length, take, IsLater, HasRead, read_pieces}, Lefts.HasLeft}

-- the pieces that are left are what is left of the read
abbrev pub invariant-loop-at : Rattle.iso_fs.proofs.reading.read_pieces.Given.invariant-loop-at
invariant-loop-at g l = record {
  left : HasLeft (read_pieces l.file.area l.file.bytes.now (length l.fn.room) l.from l.to []) (λ m. read_pieces l.file.area l.file.bytes.now m l.at l.to (take (l.at - l.from) l.room)) (l.to - l.at) (g.T.TxBlocks.state l.fn.tx) (g.T.TxBlocks.state l.tx);
  low : l.from ≤ l.at;
  up : l.at ≤ l.to;
  reads : HasRead (g.T.TxBlocks.state l.fn.tx) (g.T.TxBlocks.state l.tx);
  later : IsLater (g.T.TxBlocks.device l.fn.tx) (g.T.TxBlocks.device l.tx);
  passed : (g.T.TxBlocks.device l.tx).faults ≡ (g.T.TxBlocks.device l.fn.tx).faults;
}

abbrev pub decreases-loop-at : Rattle.iso_fs.proofs.reading.read_pieces.Given.decreases-loop-at
decreases-loop-at g l = l.to - l.at
