-- What is read ahead of a log.
use Rattle.std.specs.{Prelude.{◌≡◌, ℕ, ◌≤◌, List, Result, IsErrOf, OnOk, length, take}, Option.ForSome}
use Rattle.iso_disk.specs.Disk.{DiskState}
use Rattle.iso_log.specs.{declared.log_error.LogError.LogError, declared.log_error.LogError.TheVariants.{Damaged}, Cause.OnlyReads, Scan.StandAt}

-- There are bytes that stand from a gate on, and after the call as many as are needed, or more: at most the `rest` that are left there.
pub record ReadsAhead {T : Type 0} (gate need rest : ℕ) (bytes longer : List ℕ) (old new : DiskState) (result : Result T LogError) : Type 0 where
  pub enough : OnOk result (need ≤ length longer)
  pub within : length longer ≤ rest
  pub front : take (length bytes) longer ≡ bytes
  pub told : ForSome old.contents (λ c. StandAt gate bytes c → StandAt gate longer c)
  pub reads : OnlyReads old new result
  pub not_damaged : (at cause : ℕ) → IsErrOf result (Damaged at cause) → ⊥
