-- Histories in which every commit has seen what it should.
use Rattle.std.specs.Prelude.{ℕ, ◌+◌, ◌-◌, ◌<◌, ◌≤◌, IfSome, slice_get}
use Rattle.iso_model.specs.{declared.access.Commit.Commit, declared.access.Geometry.Geometry, declared.access.Mode.Mode, declared.access.Mode.TheVariants.{Serial, Snapshot}, Conflict.{IsSerialAt, IsSnapshotAt}, History.{History, last}}

-- what a commit's mode promises of it
abbrev pub IsIsolatedAt : Geometry → History → Mode → ℕ → Type 0
IsIsolatedAt g H Serial k = IsSerialAt H k
IsIsolatedAt g H Snapshot k = IsSnapshotAt g H k

-- Commit k of the history began below its number, at one whose array the history has, and its mode's promise holds.
pub record HasSeen (g : Geometry) (H : History) (k : ℕ) (c : Commit) : Type 0 where
  pub since : H.first ≤ c.begin + 1
  pub before : c.begin < k
  pub isolated : IsIsolatedAt g H c.mode k

-- each commit has seen what it should
abbrev pub IsIsolated : Geometry → History → Type 0
IsIsolated g H = (k : ℕ) → H.first ≤ k → k ≤ last H → IfSome (slice_get H.commits (k - H.first)) (HasSeen g H k)
