-- A run of calls that writes in one range alone: each image is one from before the run, with any bytes in that range.
use Rattle.std.proofs.Common.{◌≤◌, ◌+◌, ℕ}
use Rattle.iso_disk.{specs.Disk.{DiskState, IsLawful, TornFrom, Elapses, LeavesOnly}, proofs.Images.{torn_from_old, torn_from_wider, torn_from_twice}, proofs.Moments.{started, goes_on, joined, weakened, at_end}}

-- before the first call
pub starts_inside : {d : DiskState} → IsLawful d → (from len : ℕ) → LeavesOnly d d (TornFrom from len d.now)
starts_inside {d = d} laws from len = started laws (torn_from_old {images = d.now} from len)

-- one write more, of a part of the range
pub writes_inside : {old mid new : DiskState} (from len at n : ℕ) → from ≤ at → at + n ≤ from + len → IsLawful mid → LeavesOnly old mid (TornFrom from len old.now) → Elapses mid new (TornFrom at n mid.now) → LeavesOnly old new (TornFrom from len old.now)
writes_inside from len at n starts ends laws so_far call = goes_on so_far call (λ c torn. torn_from_twice (torn_from_wider torn from len starts ends (at_end laws so_far)))

-- one run more, in a part of the range
pub runs_inside : {old mid new : DiskState} (from len at n : ℕ) → from ≤ at → at + n ≤ from + len → IsLawful mid → LeavesOnly old mid (TornFrom from len old.now) → LeavesOnly mid new (TornFrom at n mid.now) → LeavesOnly old new (TornFrom from len old.now)
runs_inside from len at n starts ends laws first second = joined first (weakened second (λ c torn. torn_from_twice (torn_from_wider torn from len starts ends (at_end laws first))))
