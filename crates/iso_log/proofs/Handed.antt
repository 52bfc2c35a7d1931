-- What a call of the disk, or of a log, hands on at an exit.
use Rattle.iso_log.proofs.Words.{◌≡◌, ℕ, Ok, Err, IsErrOf, refl, arith, LogError, Damaged, Disk, LogFull, Memory}
use Rattle.counts.specs.Count.{HasCause}
use Rattle.iso_log.specs.Cause.{BlamesDisk}

-- ---- causes

-- a call of the disk that failed
pub disk_fails : {T U E : Type 0} (before now : ℕ) (e : E) → HasCause {T = T} before now (Err e) → BlamesDisk {T = U} before now (Err Disk)
disk_fails before now e call = record { later = call.later; failed = λ is. call.failed refl; passed = tt; other = λ no_fault. absurd (no_fault refl) }

-- and one that passed
pub disk_passes : {T U E : Type 0} (before now : ℕ) (x : T) (y : U) → HasCause {E = E} before now (Ok x) → BlamesDisk before now (Ok y)
disk_passes before now x y call = record { later = call.later; failed = λ is. absurd cc; passed = call.passed; other = tt }

-- want of memory, before any call
pub memory_fails : {U : Type 0} (n : ℕ) → BlamesDisk {T = U} n n (Err Memory)
memory_fails n = record { later = omega arith; failed = λ is. absurd cc; passed = tt; other = λ no_fault. refl }

-- a log that is full, before any call
pub full_fails : {U : Type 0} (n need free : ℕ) → BlamesDisk {T = U} n n (Err (LogFull need free))
full_fails n need free = record { later = omega arith; failed = λ is. absurd cc; passed = tt; other = λ no_fault. refl }

-- calls that passed
pub blames_none : {U : Type 0} (before now : ℕ) (y : U) → now ≡ before → BlamesDisk before now (Ok y)
blames_none before now y same = record { later = omega (arith, same); failed = λ is. absurd cc; passed = same; other = tt }

-- and a record that is damaged after them
pub blames_record : {U : Type 0} (before now : ℕ) (e : LogError) (at cause : ℕ) → e ≡ Damaged at cause → now ≡ before → BlamesDisk {T = U} before now (Err e)
blames_record before now e at cause is same = record { later = omega (arith, same); failed = λ fault. absurd cc; passed = tt; other = λ no_fault. same }

-- ---- an error is no other one

pub memory_not_full : {T : Type 0} (need free : ℕ) → IsErrOf {T = T} (Err Memory) (LogFull need free) → ⊥
memory_not_full need free is = cc

pub memory_not_damaged : {T : Type 0} (at cause : ℕ) → IsErrOf {T = T} (Err Memory) (Damaged at cause) → ⊥
memory_not_damaged at cause is = cc

pub disk_not_full : {T : Type 0} (need free : ℕ) → IsErrOf {T = T} (Err Disk) (LogFull need free) → ⊥
disk_not_full need free is = cc

pub disk_not_damaged : {T : Type 0} (at cause : ℕ) → IsErrOf {T = T} (Err Disk) (Damaged at cause) → ⊥
disk_not_damaged at cause is = cc

pub damaged_not_full : {T : Type 0} (e : LogError) (at cause : ℕ) → e ≡ Damaged at cause → (need free : ℕ) → IsErrOf {T = T} (Err e) (LogFull need free) → ⊥
damaged_not_full e at cause damaged need free is = cc
