-- When a call that opens an image may blame the disk.
use Rattle.std.specs.Prelude.{◌≡◌, ◌≢◌, ℕ, ◌≤◌, Result, OnOk, IfErr, IsErrOf}
use Rattle.counts.specs.Count.{Rose}
use Rattle.iso_image.specs.{declared.open_error.OpenError.OpenError, declared.open_error.OpenError.TheVariants.{Damaged, Disk, Memory}}
use Rattle.iso_log.specs.declared.log_error.LogError.{LogError}
use Rattle.iso_log.specs.declared.log_error.LogError.TheVariants as log

-- a test that an image fails: no fault of the disk, and no want of memory
abbrev pub IsTest : OpenError → Type 0
IsTest Disk = ⊥
IsTest Memory = ⊥
IsTest e = Unit {0}

-- the count of the disk's faults did not fall, a call that blames the disk raised it, and after any other answer it is what it was
pub record BlamesDisk {T : Type 0} (before now : ℕ) (result : Result T OpenError) : Type 0 where
  pub later : before ≤ now
  pub failed : IsErrOf result Disk → Rose before now
  pub passed : OnOk result (now ≡ before)
  pub other : IfErr result (λ e. e ≢ Disk → now ≡ before)

-- the answer of an opening whose scan of the log has failed
abbrev pub opening : LogError → OpenError
opening log.Memory = Memory
opening (log.Damaged at cause) = Damaged at cause
opening log.Disk = Disk
opening (log.LogFull need free) = Disk

-- what `BlamesDisk` says, of the error itself, which is answered together with the disk
pub record IsBlamed (before now : ℕ) (e : OpenError) : Type 0 where
  pub later : before ≤ now
  pub failed : e ≡ Disk → Rose before now
  pub other : e ≢ Disk → now ≡ before
