-- When a call of a log may blame the disk.
use Rattle.std.specs.Prelude.{◌≡◌, ◌≢◌, ℕ, ◌≤◌, Result, OnOk, IfErr, IsErrOf}
use Rattle.counts.specs.Count.{Rose}
use Rattle.iso_disk.specs.Disk.{DiskState, WritesNothing}
use Rattle.iso_log.specs.{declared.log_error.LogError.LogError, declared.log_error.LogError.TheVariants.{Disk, LogFull}}

-- the count of the disk's faults did not fall, a call that blames the disk raised it, and after any other answer it is what it was
pub record BlamesDisk {T : Type 0} (before now : ℕ) (result : Result T LogError) : Type 0 where
  pub later : before ≤ now
  pub failed : IsErrOf result Disk → Rose before now
  pub passed : OnOk result (now ≡ before)
  pub other : IfErr result (λ e. e ≢ Disk → now ≡ before)

-- a call that only reads: the disk stays as it is, which alone is to blame for its faults, and no log is full
pub record OnlyReads {T : Type 0} (old new : DiskState) (result : Result T LogError) : Type 0 where
  pub unwritten : WritesNothing old new
  pub cause : BlamesDisk old.faults new.faults result
  pub not_full : (need free : ℕ) → IsErrOf result (LogFull need free) → ⊥
