use Rattle.kept_disk.proofs.Words.{◌≡◌, ◌-◌, ◌≤◌, length, take, drop, ForSome, Elapses, HoldsRange, Stand}

abbrev pub invariant-loop-done : Rattle.kept_disk.proofs.parts.read_parts.Given.invariant-loop-done
invariant-loop-done g l = record {
  within : l.done ≤ length l.into;
  bytes : ForSome (g.D.Disk.state l.fn.disk).contents (λ c. take l.done l.into ≡ take l.done (drop l.at c));
  contents : (g.D.Disk.state l.disk).contents ≡ (g.D.Disk.state l.fn.disk).contents;
  crash : Elapses (g.D.Disk.state l.fn.disk) (g.D.Disk.state l.disk) (g.D.Disk.state l.fn.disk).now;
  faults : (g.D.Disk.state l.disk).faults ≡ (g.D.Disk.state l.fn.disk).faults;
  stand : ForSome (g.D.Disk.state l.fn.disk).contents (Stand l.pages.numbers.items l.pages.ends.items l.pages.bytes.items);
  places : length l.pages.numbers.items ≡ length l.fn.pages.numbers.items;
  held : HoldsRange l.fn.pages.numbers.items l.at (length l.fn.into) → (l.disk ≡ l.fn.disk) × (l.pages ≡ l.fn.pages);
  holds : 2053 ≤ length l.fn.pages.numbers.items → length l.fn.into ≤ 65536 → HoldsRange l.pages.numbers.items l.at l.done;
}

abbrev pub decreases-loop-done : Rattle.kept_disk.proofs.parts.read_parts.Given.decreases-loop-done
decreases-loop-done g l = length l.into - l.done
