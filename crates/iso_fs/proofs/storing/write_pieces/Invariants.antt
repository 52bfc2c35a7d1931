use Rattle.iso_fs.proofs.{Words.{◌≡◌, ◌-◌, ◌≤◌, ◌++◌, drop, length, IsLater, write_pieces, entries_of}, Lefts.HasLeft}

-- the pieces that are left are what is left of the write
abbrev pub invariant-loop-at : Rattle.iso_fs.proofs.storing.write_pieces.Given.invariant-loop-at
invariant-loop-at g l = record {
  left : HasLeft (write_pieces l.writing.file.area (entries_of l.writing.file.area.size l.writing.file.bytes.now ++ l.news) l.writing.file.count (length l.writing.bytes.now) l.writing.off l.end l.writing.bytes.now) (λ m. write_pieces l.writing.file.area (entries_of l.writing.file.area.size l.writing.file.bytes.now ++ l.news) l.writing.file.count m l.at l.end (drop (l.at - l.writing.off) l.writing.bytes.now)) (l.end - l.at)
      (g.T.TxBlocks.state l.fn.tx) (g.T.TxBlocks.state l.tx);
  low : l.writing.off ≤ l.at;
  up : l.at ≤ l.end;
  long : length l.into ≡ l.writing.file.area.size;
  later : IsLater (g.T.TxBlocks.device l.fn.tx) (g.T.TxBlocks.device l.tx);
  passed : (g.T.TxBlocks.device l.tx).faults ≡ (g.T.TxBlocks.device l.fn.tx).faults;
}

abbrev pub decreases-loop-at : Rattle.iso_fs.proofs.storing.write_pieces.Given.decreases-loop-at
decreases-loop-at g l = l.end - l.at
