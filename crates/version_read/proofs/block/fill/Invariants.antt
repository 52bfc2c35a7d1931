-- The bytes so far are the image's where they were wanted.
use Rattle.version_read.proofs.{Words.{◌≡◌, ◌≤◌, ◌<◌, ◌-◌, false, ForSome, WritesNothing, is_seen, IsFilled}, Wanted.unseen}

abbrev pub invariant-loop-at : Rattle.version_read.proofs.block.fill.Given.invariant-loop-at
invariant-loop-at g l = record {
  from : l.off ≤ l.at;
  to : l.at ≤ l.end;
  wanted : l.at < l.end → is_seen l.seen l.at ≡ false;
  filled : ForSome (g.D.Disk.state l.fn.disk).contents (λ c. IsFilled c l.place l.off (l.at - l.off) l.seen l.fn.into l.into);
  count : l.count ≡ unseen l.seen l.off (l.at - l.off);
  faults : (g.D.Disk.state l.disk).faults ≡ (g.D.Disk.state l.fn.disk).faults;
  unwritten : WritesNothing (g.D.Disk.state l.fn.disk) (g.D.Disk.state l.disk);
}

abbrev pub decreases-loop-at : Rattle.version_read.proofs.block.fill.Given.decreases-loop-at
decreases-loop-at g l = l.end - l.at
