-- The cause of a failure, over a run of calls.
use Rattle.std.proofs.Common.{◌≡◌, ℕ, Ok, Err, arith, refl, subst}
use Rattle.counts.specs.Count.{HasCause, Rose}

-- calls that passed
pub all_passed : {T E : Type 0} {before now : ℕ} {x : T} → now ≡ before → HasCause {T = T} {E = E} before now (Ok x)
all_passed same = record { later = omega (arith, same); failed = λ is. absurd cc; passed = same }

-- and one after them that failed
pub failed_behind : {T U E F : Type 0} {before mid now : ℕ} {e : E} {f : F} → mid ≡ before → HasCause {T = T} mid now (Err e) → HasCause {T = U} before now (Err f)
failed_behind {now = now} same call = record {
  later = omega (arith, same, call.later);
  failed = λ is. subst (λ (n : ℕ). Rose n now) same (call.failed refl);
  passed = tt;
}
