use Rattle.mirror_disk.proofs.Words.{◌≡◌, ◌-◌, ◌≤◌, ℕ, List, Some, length, take, LeavesOnly, TellsTorn, TornFrom, WritesNothing, body}

abbrev pub invariant-loop-done : Rattle.mirror_disk.proofs.copy.copy_body.Given.invariant-loop-done
invariant-loop-done g l = record {
  within : l.done ≤ l.count;
  size : length l.piece ≡ 4096;
  room : length l.there ≡ 4096;
  unwritten : WritesNothing (g.C.Disk.state l.fn.from) (g.C.Disk.state l.from);
  moments : LeavesOnly (g.O.Disk.state l.fn.to) (g.O.Disk.state l.to) (TornFrom 64 l.count (g.O.Disk.state l.fn.to).now);
  torn : TellsTorn 64 l.count (g.O.Disk.state l.fn.to) (g.O.Disk.state l.to);
  alike : (x y : List ℕ) → (g.C.Disk.state l.fn.from).contents ≡ Some x → (g.O.Disk.state l.to).contents ≡ Some y → take l.done (body y) ≡ take l.done (body x);
  still : (x y : List ℕ) → (g.C.Disk.state l.fn.from).contents ≡ Some x → (g.O.Disk.state l.fn.to).contents ≡ Some y → body x ≡ body y → WritesNothing (g.O.Disk.state l.fn.to) (g.O.Disk.state l.to);
  faults : (g.C.Disk.state l.from).faults ≡ (g.C.Disk.state l.fn.from).faults;
  later : (g.O.Disk.state l.fn.to).faults ≤ (g.O.Disk.state l.to).faults;
}

abbrev pub decreases-loop-done : Rattle.mirror_disk.proofs.copy.copy_body.Given.decreases-loop-done
decreases-loop-done g l = l.count - l.done
