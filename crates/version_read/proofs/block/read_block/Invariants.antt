-- Where a byte was seen, it is the one that the versions show.
use Rattle.version_read.proofs.{Words.{◌≡◌, ◌≤◌, drop, length, ForSome, WritesNothing}, Walks.{AreDone, AreRight}, Wanted.unseen}

abbrev pub invariant-loop-left : Rattle.version_read.proofs.block.read_block.Given.invariant-loop-left
invariant-loop-left g l = record {
  inside : l.left ≤ length l.versions;
  wanted : l.wanted ≡ unseen l.seen 0 (length l.fn.into);
  done : AreDone (drop l.left l.versions) l.seen;
  right : ForSome (g.D.Disk.state l.fn.disk).contents (λ c. AreRight c (drop l.left l.versions) l.seen l.into);
  faults : (g.D.Disk.state l.disk).faults ≡ (g.D.Disk.state l.fn.disk).faults;
  unwritten : WritesNothing (g.D.Disk.state l.fn.disk) (g.D.Disk.state l.disk);
}

abbrev pub decreases-loop-left : Rattle.version_read.proofs.block.read_block.Given.decreases-loop-left
decreases-loop-left g l = l.left
