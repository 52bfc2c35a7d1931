-- A memory disk as the trait sees it: its first bytes and the record of its calls are replayed for every question.
use Rattle.std.specs.{Prelude.{◌≡◌, ◌⊎◌, ℕ, List, [], ◌∷◌, ◌++◌, length, Option, Some, Result, IsErr, OnOk}, Option.option_map}
use Rattle.iso_memdisk.specs.{declared.disk.MemDisk.MemDisk, declared.record.Call.Call, declared.failures.CallKind.CallKind, declared.failures.Failures.Failures, Failures.{IsNamed, counted}, Record.{written, synced}, Replayed.{images, replayed}}
use Rattle.counts.specs.Count.{one_more, faults_after}
use Rattle.iso_disk.specs.Disk.{DiskState}

-- what a read gives
abbrev pub bytes_of : MemDisk → List ℕ
bytes_of d = written d.history.items d.first.items

-- what the last sync made stable
abbrev pub synced_of : MemDisk → List ℕ
synced_of d = synced d.history.items d.first.items d.first.items

abbrev pub size_of : MemDisk → ℕ
size_of d = length d.first.items

abbrev pub contents_of : MemDisk → Option (List ℕ)
contents_of d = Some (bytes_of d)

-- the images that a crash now may leave
abbrev pub now_of : MemDisk → List ℕ → Type 0
now_of d = images d.first.items d.history.items

-- the record of calls begins anew where it is bound, so that moment is 0
abbrev pub bound_of : MemDisk → Option (ℕ × List ℕ)
bound_of d = option_map (λ name. (0, name.items)) d.name

abbrev pub state_of : MemDisk → DiskState
state_of d = replayed d.first.items d.history.items d.failures.faults d.failures.binds (bound_of d) (λ _. contents_of d)

-- which calls are to fail, and the counts
abbrev pub failures_of : MemDisk → Failures
failures_of d = d.failures

-- nothing was done to the bytes, and no image came or went
pub record IsUntouched (old new : MemDisk) : Type 0 where
  pub first : new.first.items ≡ old.first.items
  pub history : new.history.items ≡ old.history.items

-- one more call was done
pub record Appends (old new : MemDisk) (call : Call) : Type 0 where
  pub first : new.first.items ≡ old.first.items
  pub history : new.history.items ≡ old.history.items ++ call ∷ []

-- it has these bytes, all of them stable, and nothing was called since
pub record Starts (d : MemDisk) (bytes : List ℕ) : Type 0 where
  pub first : d.first.items ≡ bytes
  pub history : d.history.items ≡ []

-- A call fails where the plan of failures names it, and else only for want of memory. It counts itself, its fault and
-- its want of memory, each by one, and nothing else. Where it fails it has done nothing.
pub record FollowsPlan {T E : Type 0} (kind : CallKind) (old new : MemDisk) (result : Result T E) : Type 0 where
  pub named : IsNamed kind old.failures → IsErr result × (new.failures.starved ≡ old.failures.starved)
  pub failed : IsErr result → IsNamed kind old.failures ⊎ (new.failures.starved ≡ one_more old.failures.starved)
  pub passed : OnOk result (new.failures.starved ≡ old.failures.starved)
  pub counted : new.failures ≡ record (counted kind old.failures) { faults = faults_after old.failures.faults result; starved = new.failures.starved }
  pub untouched : IsErr result → IsUntouched old new
