use Rattle.iso_top.proofs.{DigestWords.{◌≡◌, length, IsTx, StandsFor, disk_of, up, WritesNothing, World, Live}, Blocks.HoldsFirst}

abbrev pub invariant-loop-number : Rattle.iso_top.proofs.digest.digest_in.Given.invariant-loop-number
invariant-loop-number g l = record {
  size : length l.block ≡ length l.fn.block;
  stands : (W : World) → StandsFor g.D.Disk.state l.fn.core W up → StandsFor g.D.Disk.state l.core W up;
  still : WritesNothing (g.D.Disk.state (disk_of l.fn.core)) (g.D.Disk.state (disk_of l.core));
  faults : (g.D.Disk.state (disk_of l.core)).faults ≡ (g.D.Disk.state (disk_of l.fn.core)).faults;
  holds : (W : World) (t : Live) → StandsFor g.D.Disk.state l.fn.core W up → IsTx W l.tx t → l.blocks ≡ W.geometry.blocks → HoldsFirst (g.D.Disk.state (disk_of l.fn.core)).contents W t l.number l.hasher;
}
