-- The versions before this one are laid over the range.
use Rattle.version_read.proofs.Words.{◌≡◌, take, ForSome, WritesNothing, IsLaidIn}

abbrev pub invariant-loop-version : Rattle.version_read.proofs.block.lay_over.Given.invariant-loop-version
invariant-loop-version g l = record {
  laid : ForSome (g.D.Disk.state l.fn.disk).contents (λ c. IsLaidIn l.from l.to c (take l.version-index l.versions) l.fn.into l.into);
  faults : (g.D.Disk.state l.disk).faults ≡ (g.D.Disk.state l.fn.disk).faults;
  unwritten : WritesNothing (g.D.Disk.state l.fn.disk) (g.D.Disk.state l.disk);
}
