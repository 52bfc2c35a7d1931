-- Counts of faults. They do not fall, and they stand still at the last value of a u64.
use Rattle.std.specs.Prelude.{◌≡◌, ℕ, ◌+◌, ◌-◌, ◌^◌, ◌≤◌, min, Result, Ok, Err, IsErr, OnOk, List, Contains}

-- a count after one more
abbrev pub one_more : ℕ → ℕ
one_more count = min (count + 1) (2 ^ 64 - 1)

-- the count rose, or it is at its last value
abbrev pub Rose : ℕ → ℕ → Type 0
Rose before now = one_more before ≤ now

-- the count did not fall, a call that failed raised it, and after Ok it is what it was
pub record HasCause {T E : Type 0} (before now : ℕ) (result : Result T E) : Type 0 where
  pub later : before ≤ now
  pub failed : IsErr result → Rose before now
  pub passed : OnOk result (now ≡ before)

-- the count of faults after a call, where it is one more at each fault and at no other call
abbrev pub faults_after : {T E : Type 0} → ℕ → Result T E → ℕ
faults_after before (Ok answer) = before
faults_after before (Err fault) = one_more before

-- the next call is one of those that are to fail
abbrev pub FailsNext : List ℕ → ℕ → Type 0
FailsNext failing calls = Contains failing (one_more calls)
