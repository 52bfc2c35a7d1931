-- The cause of a call's answer, as a core tells it.
use Rattle.iso_core.proofs.Words.{arith, ◌≡◌, ◌⊎◌, ℕ, Ok, Err, IsErrOf, ap, inl, inr, refl, CoreError, DiskState, EndReply, EndsGroupOn, EndsOn, LAST}
use Rattle.iso_core.specs.Calls.{BlamesDisk as Blames}
use Rattle.iso_model.specs.declared.core_error.CoreError.TheVariants as error
use Rattle.counts.specs.Count.{HasCause}
use Rattle.iso_log.specs.{Cause.BlamesDisk, declared.log_error.LogError.LogError, declared.log_error.LogError.TheVariants.{Disk, LogFull}}

-- an append that was done
pub append_passes : {T U E : Type 0} {before now : ℕ} {x : T} {y : U} → BlamesDisk {T = T} before now (Ok x) → HasCause {T = U} {E = E} before now (Ok y)
append_passes call = record { later = call.later; failed = λ is. absurd cc; passed = call.passed }

-- and one that failed: the log was not full, so the disk did
pub append_fails : {T U E : Type 0} {before now need free : ℕ} {e : LogError} {f : E} → (e ≡ Disk) ⊎ (e ≡ LogFull need free) → ((n m : ℕ) → IsErrOf {T = T} (Err e) (LogFull n m) → ⊥)
    → BlamesDisk {T = T} before now (Err e) → HasCause {T = U} before now (Err f)
append_fails {need = need} {free = free} only not_full call = record {
  later = call.later;
  failed = λ is. elim only [
    | inl disk ↦ call.failed (ap Err disk)
    | inr full ↦ absurd (not_full need free (ap Err full))
  ];
  passed = tt;
}

-- what is blamed for an answer of the disk
pub blames_on_ok : {T U E : Type 0} {before now : ℕ} {x : T} {y : U} → HasCause {T = T} {E = E} before now (Ok x) → Blames {T = U} before now (Ok y)
blames_on_ok call = record { later = call.later; failed = λ is. absurd cc; passed = call.passed; other = tt }

pub blames_on_err : {T U E : Type 0} {before now : ℕ} {f : E} → HasCause {T = T} before now (Err f) → Blames {T = U} before now (Err error.Disk)
blames_on_err call = record { later = call.later; failed = λ is. call.failed refl; passed = tt; other = λ other. absurd (other refl) }

-- and where it was not called
pub blames_none : {T : Type 0} (faults : ℕ) (x : T) → Blames faults faults (Ok x)
blames_none faults x = record { later = omega arith; failed = λ is. absurd cc; passed = refl; other = tt }

pub blames_other : {T : Type 0} (faults : ℕ) (e : CoreError) → (IsErrOf {T = T} (Err e) error.Disk → ⊥) → Blames {T = T} faults faults (Err e)
blames_other faults e not_disk = record { later = omega arith; failed = λ is. absurd (not_disk is); passed = tt; other = λ other. refl }

-- an end that did not call it
pub ends_off : {D : Type 0} (state : D → DiskState) (d : D) (e : CoreError) → ((at : ℕ) → IsErrOf {T = EndReply} (Err e) (error.Worn at) → at ≡ LAST) → (IsErrOf {T = EndReply} (Err e) error.Disk → ⊥) → EndsOn state d d (Err e)
ends_off state d e worn not_disk = record { last = worn; unwritten = inr refl; told = tt; cause = blames_other (state d).faults e not_disk }

pub passes_off : {D : Type 0} (state : D → DiskState) (d : D) (r : EndReply) → EndsOn state d d (Ok r)
passes_off state d r = record { last = λ at is. absurd cc; unwritten = inr refl; told = λ told. told; cause = blames_none (state d).faults r }

pub group_off : {D T : Type 0} (state : D → DiskState) (d : D) → EndsGroupOn {T = T} state d d (Err error.Memory)
group_off state d = record { only = inr refl; untouched = λ other. refl; told = tt; cause = blames_other (state d).faults error.Memory (λ is. cc is) }

pub group_passes_off : {D T : Type 0} (state : D → DiskState) (d : D) (x : T) → EndsGroupOn state d d (Ok x)
group_passes_off state d x = record { only = tt; untouched = tt; told = λ told. told; cause = blames_none (state d).faults x }
