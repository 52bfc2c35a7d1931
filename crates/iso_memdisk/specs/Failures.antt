-- Which call the plan of a disk's failures names, and what a call counts.
use Rattle.std.specs.{Prelude.{◌≡◌, ◌⊎◌, ◌-◌, ℕ, Some, None}, Option.option_map}
use Rattle.counts.specs.Count.{one_more}
use Rattle.iso_memdisk.specs.{declared.failures.CallKind.CallKind, declared.failures.CallKind.TheVariants.{Read, Write, Sync, Bind}, declared.failures.Failures.Failures, declared.failures.KindPlan.KindPlan}

-- which of the next calls of this kind is to fail
abbrev pub failing_of : CallKind → KindPlan → ℕ
failing_of Read plan = plan.read
failing_of Write plan = plan.write
failing_of Sync plan = plan.sync
failing_of Bind plan = plan.bind

-- the plan with this number for that kind
abbrev pub set_failing : CallKind → ℕ → KindPlan → KindPlan
set_failing Read number plan = record plan { read = number }
set_failing Write number plan = record plan { write = number }
set_failing Sync number plan = record plan { sync = number }
set_failing Bind number plan = record plan { bind = number }

-- no call is to fail, and none was made
abbrev pub no_failures : Failures
no_failures = record { passing = None; failing = 0; kinds = record { read = 0; write = 0; sync = 0; bind = 0 }; calls = 0; binds = 0; faults = 0; starved = 0 }

-- the next call, of this kind, is to fail: none is left to pass, or it is one that fails alone
abbrev pub IsNamed : CallKind → Failures → Type 0
IsNamed kind f = (f.passing ≡ Some 0) ⊎ (f.failing ≡ 1) ⊎ (failing_of kind f.kinds ≡ 1)

-- how often a bind was asked for, after one more call of this kind
abbrev pub binds_after : CallKind → ℕ → ℕ
binds_after Read binds = binds
binds_after Write binds = binds
binds_after Sync binds = binds
binds_after Bind binds = one_more binds

-- plan and counts after one more call of this kind, but for its fault
abbrev pub counted : CallKind → Failures → Failures
counted kind f = record f {
  passing = option_map (λ n. n - 1) f.passing;
  failing = f.failing - 1;
  kinds = set_failing kind (failing_of kind f.kinds - 1) f.kinds;
  calls = one_more f.calls;
  binds = binds_after kind f.binds;
}
