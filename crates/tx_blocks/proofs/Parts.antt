-- A call that is made of parts.
use Rattle.tx_blocks.proofs.{Words.{◌≡◌, ◌≢◌, ◌⊎◌, ◌<◌, ◌∙◌, sym, refl, ap, subst, ℕ, ◌+◌, ◌≤◌, List, [], ◌∷◌, ◌++◌, length, take, Option, Some, None, Result, Ok, Err, IfOk, inl, inr, arith, length-append, Access, Array, StoreError, TxError, own, Program, IsLocal, IsLocalCall, accesses_of, answer_of, after, outcome, Tx, Device, IsLater, with_accesses, room_of, Ends, Ran, Began, Stopped, IsCut, HasRun, HasEnded, HasRead, IsCause, IsStoreCause, Behaves, WantsMemory, Done, then_do}, Programs.reads_append, Progress.{IsAt, at_as, at_start, at_then, ran_at, same_base, whole_run, with_more}, Refusals.{behaves_more, cut_as, cut_then, cause_earlier, cause_since, later_than, later_same, read_none, read_same}}
use Rattle.store_model.specs.declared.stores.StoreError.TheVariants as store
use Rattle.store_model.specs.declared.stores.TxError.TheVariants as error

pub ends_from : {R : Type 0} (whole rest : Program R) (t u v : Tx) (end : Option R) → IsAt whole rest t u → Ends rest u v end → Ends whole t v end
ends_from whole rest t u v end now ended = record {
  done = now.done ++ ended.done;
  is = ended.is ∙ ap (λ (w : Tx). with_accesses w ended.done) now.is ∙ with_more t now.done ended.done;
  told = λ A told. now.told A told ∙ ap (after now.done) (ended.told A (same_base whole rest t u now ∙ told));
}

pub take_more : {X : Type 0} (xs ys : List X) (n : ℕ) → take (length xs + n) (xs ++ ys) ≡ xs ++ take n ys
take_more [] ys n = let e : 0 + n ≡ n = omega arith in ap (λ (m : ℕ). take m ys) e
take_more (x ∷ xs) ys n = let e : Rattle.std.proofs.Common.suc (length xs) + n ≡ Rattle.std.proofs.Common.suc (length xs + n) = omega arith in ap (λ (m : ℕ). take m (x ∷ (xs ++ ys))) e ∙ ap (λ rest. x ∷ rest) (take_more xs ys n)

abbrev pub began_from : {R : Type 0} (whole rest : Program R) (t u v : Tx) → IsAt whole rest t u → Began rest u v → Began whole t v
began_from whole rest t u v now began = record {
  done = now.done ++ began.done;
  is = began.is ∙ ap (λ (w : Tx). with_accesses w began.done) now.is ∙ with_more t now.done began.done;
  told = λ A told.
      let part = began.told A (same_base whole rest t u now ∙ told) in (
        length now.done + part.0,
        ap (λ xs. now.done ++ xs) part.1 ∙ sym (take_more now.done (outcome (room_of u) rest (own A u.accesses)).0 part.0) ∙ sym (ap (λ x. take (length now.done + part.0) x.0) (now.told A told)),
      );
}

pub stopped_from : {R : Type 0} (whole rest : Program R) (t u v : Tx) → IsAt whole rest t u → Stopped rest u v → Stopped whole t v
stopped_from whole rest t u v now stopped = record {
  began = began_from whole rest t u v now stopped.began;
  fewer = λ A told.
      let left = accesses_of rest (own A u.accesses) in
      let long : length (accesses_of whole (own A t.accesses)) ≡ length now.done + length left = ap (λ xs. length xs) (now.all A told) ∙ length-append now.done left in
      let done : length (now.done ++ stopped.began.done) ≡ length now.done + length stopped.began.done = length-append now.done stopped.began.done in
      omega (arith, long, done, stopped.fewer A (same_base whole rest t u now ∙ told));
}

pub cut_from : {R : Type 0} (whole rest : Program R) (t u v : Tx) (e : TxError) → IsAt whole rest t u → IsCut rest u v e → IsCut whole t v e
cut_from whole rest t u v e now = cut_as rest whole u v t e (ends_from whole rest t u v None now) (stopped_from whole rest t u v now)

-- a part that follows what is left of the call ends the call
pub run_from : {X : Type 0} (whole rest : Program (Result X StoreError)) (t u v : Tx) (result : Result X StoreError) → IsAt whole rest t u → HasRun rest u v result → HasRun whole t v result
run_from whole rest t u v (Ok x) now run = ends_from whole rest t u v (Some (Ok x)) now run
run_from whole rest t u v (Err store.BadKey) now run = ends_from whole rest t u v (Some (Err store.BadKey)) now run
run_from whole rest t u v (Err store.BadValue) now run = ends_from whole rest t u v (Some (Err store.BadValue)) now run
run_from whole rest t u v (Err (store.NoBlocks need free)) now run = ends_from whole rest t u v (Some (Err (store.NoBlocks need free))) now run
run_from whole rest t u v (Err (store.Broken block)) now run = ends_from whole rest t u v (Some (Err (store.Broken block))) now run
run_from whole rest t u v (Err (store.Tx e)) now run = cut_from whole rest t u v e now run
run_from whole rest t u v (Err store.Memory) now run = run

pub ended_from : {X : Type 0} (p : Program (Result X StoreError)) (t u : Tx) (result : Result X StoreError) → HasRun p t u result → HasEnded p t u result
ended_from p t u (Ok x) run = run
ended_from p t u (Err store.BadKey) run = run
ended_from p t u (Err store.BadValue) run = run
ended_from p t u (Err (store.NoBlocks need free)) run = run
ended_from p t u (Err (store.Broken block)) run = run
ended_from p t u (Err (store.Tx e)) run = run
ended_from p t u (Err store.Memory) run = absurd run

-- the same program by another name
pub ended_as : {X : Type 0} (p q : Program (Result X StoreError)) (t u : Tx) (result : Result X StoreError) → q ≡ p → HasEnded p t u result → HasEnded q t u result
ended_as p q t u result e ended = subst (λ (r : Program (Result _ StoreError)). HasEnded r t u result) (sym e) ended

-- a call that ran to Ok is local where its program is
pub run_local : {X M : Type 0} (IsWellFormed : Array → Type 0) (map_of : Array → M) (op : M → X × M) (p : Program (Result X StoreError)) (t u : Tx) (result : Result X StoreError)
    → ((A : Array) (x : X) → t.base ≡ Some A → answer_of p (own A t.accesses) ≡ Ok x → IsLocal IsWellFormed map_of op (own A t.accesses) (accesses_of p (own A t.accesses)) x)
    → HasRun p t u result → IfOk result (IsLocalCall IsWellFormed map_of op t u)
run_local IsWellFormed map_of op p t u (Err e) local run = tt
run_local IsWellFormed map_of op p t u (Ok x) local run = λ A told.
    let whole = whole_run p t u (Ok x) run A told in
    subst (λ (accesses : List Access). IsLocal IsWellFormed map_of op (own A t.accesses) accesses x) whole.accesses_are (local A x told whole.answer_is)

pub read_join : (t u v : Tx) → HasRead t u → HasRead u v → HasRead t v
read_join t u v one two = record {
  done = one.done ++ two.done;
  is = two.is ∙ ap (λ (w : Tx). with_accesses w two.done) one.is ∙ with_more t one.done two.done;
  reads = reads_append one.done two.done one.reads two.reads;
}

-- after reads that went well
pub behaves_after : {R : Type 0} (t u v : Tx) (writes : ℕ) (before mid now : Device) (result : Result R StoreError) → HasRead t u → IsLater before mid → mid.faults ≡ before.faults
    → Behaves u v writes mid now result → Behaves t v writes before now result
behaves_after t u v writes before mid now (Ok x) read later passed is = record { cause = tt; unwritten = tt; known = tt; later = later_than before mid now later is.later; passed = is.passed ∙ passed }
behaves_after t u v writes before mid now (Err e) read later passed is = record {
  cause = cause_since v writes before mid now e passed is.cause;
  unwritten = λ other. read_join t u v read (is.unwritten other);
  known = is.known;
  later = later_than before mid now later is.later;
  passed = tt;
}

-- a part that makes no more writes than the call, after reads that went well
pub behaves_next : {R : Type 0} {t u v : Tx} {few writes : ℕ} {before mid now : Device} {result : Result R StoreError} → HasRead t u → IsLater before mid → mid.faults ≡ before.faults
    → Behaves u v few mid now result → few ≤ writes → Behaves t v writes before now result
behaves_next {t = t} {u = u} {v = v} {few = few} {writes = writes} {before = before} {mid = mid} {now = now} {result = result} read later passed is le =
    behaves_after t u v writes before mid now result read later passed (behaves_more u v few writes mid now result le is)

-- a refusal of an access after reads alone
pub refused_reading : {R : Type 0} (t v : Tx) (writes : ℕ) (before now : Device) (e : TxError) → HasRead t v → 1 ≤ writes → IsCause v 1 before now e → IsLater before now → Behaves {R = R} t v writes before now (Err (store.Tx e))
refused_reading t v writes before now e read le cause later = record { cause = cause_earlier v 1 writes before before now e le refl cause; unwritten = λ other. read; known = (λ x. cc, λ x. cc); later = later; passed = tt }

-- a refusal of a call's first access, which is a read
pub refused_first : {R : Type 0} {t u : Tx} {writes : ℕ} {before now : Device} (e : TxError) → u ≡ t → IsCause u 1 before now e → IsLater before now → 1 ≤ writes → Behaves {R = R} t u writes before now (Err (store.Tx e))
refused_first {R = R} {t = t} {u = u} {writes = writes} {before = before} {now = now} e same cause later le = refused_reading t u writes before now e (read_same t t u (read_none t) same) le cause later

-- any refusal that is not of the arguments
pub refused_so : {R : Type 0} (t v : Tx) (writes : ℕ) (before now : Device) (e : StoreError) → HasRead t v → IsStoreCause v writes before now e → (e ≢ store.BadKey) × (e ≢ store.BadValue) → IsLater before now
    → Behaves {R = R} t v writes before now (Err e)
refused_so t v writes before now e read cause known later = record { cause = cause; unwritten = λ other. read; known = known; later = later; passed = tt }

-- want of memory for a write, where the call makes more than one
pub refused_memory : {R : Type 0} (t v : Tx) (writes : ℕ) (before now : Device) (e : TxError) → 1 < writes → e ≡ error.Memory → now ≡ before → Behaves {R = R} t v writes before now (Err (store.Tx e))
refused_memory {R = R} t v writes before now e many is same = subst (λ (x : TxError). Behaves {R = R} t v writes before now (Err (store.Tx x))) (sym is) (record {
  cause = ap (λ (d : Device). d.faults) same;
  unwritten = written;
  known = (λ x. cc, λ x. cc);
  later = later_same before now same;
  passed = tt;
})
  where
    written : (writes ≤ 1) ⊎ (store.Tx error.Memory ≢ store.Tx error.Memory) → HasRead t v
    written (inl few) = absurd (omega (arith, many, few))
    written (inr other) = absurd (other refl)

pub done_so : {R : Type 0} (t v : Tx) (writes : ℕ) (before now : Device) (r : R) → now ≡ before → Behaves t v writes before now (Ok r)
done_so t v writes before now r same = record { cause = tt; unwritten = tt; known = tt; later = later_same before now same; passed = ap (λ (d : Device). d.faults) same }

-- a scan that was answered ran
pub scanned_ok : {X : Type 0} (p : Program (Result X StoreError)) (t u : Tx) (x : X) → Ran p t u (Ok x) ⊎ WantsMemory p t u (Ok x) → Ran p t u (Ok x)
scanned_ok p t u x (inl ran) = ran
scanned_ok p t u x (inr wants) = absurd (answered x wants.0)
  where
    answered : {X : Type 0} (x : X) → ◌≡◌ {A = Result X StoreError} (Ok x) (Err (store.Tx error.Memory)) → ⊥
    answered x is = cc

-- a call has further accesses, and the transaction is else as before
pub record HasGrown (t u : Tx) : Type 0 where
  pub done : List Access
  pub is : u ≡ with_accesses t done

cut_grows : {R : Type 0} (p : Program R) (t u : Tx) (e : TxError) → IsCut p t u e → HasGrown t u
cut_grows p t u error.TooManyAccesses cut = record { done = cut.done; is = cut.is }
cut_grows p t u error.Memory cut = record { done = cut.began.done; is = cut.began.is }
cut_grows p t u error.Down cut = record { done = cut.began.done; is = cut.began.is }
cut_grows p t u error.Disk cut = record { done = cut.began.done; is = cut.began.is }
cut_grows p t u error.NotInTx cut = record { done = cut.began.done; is = cut.began.is }
cut_grows p t u error.BadBlock cut = absurd cut
cut_grows p t u error.BadRange cut = absurd cut
cut_grows p t u error.NoAccess cut = absurd cut
cut_grows p t u error.TooManyMarks cut = absurd cut

pub ended_grows : {X : Type 0} (p : Program (Result X StoreError)) (t u : Tx) (result : Result X StoreError) → HasEnded p t u result → HasGrown t u
ended_grows p t u (Ok x) ended = record { done = ended.done; is = ended.is }
ended_grows p t u (Err store.BadKey) ended = record { done = ended.done; is = ended.is }
ended_grows p t u (Err store.BadValue) ended = record { done = ended.done; is = ended.is }
ended_grows p t u (Err (store.NoBlocks need free)) ended = record { done = ended.done; is = ended.is }
ended_grows p t u (Err (store.Broken block)) ended = record { done = ended.done; is = ended.is }
ended_grows p t u (Err (store.Tx e)) ended = cut_grows p t u e ended
ended_grows p t u (Err store.Memory) ended = record { done = []; is = ended ∙ sym (ap (λ accesses. record t { accesses = accesses }) (Rattle.std.proofs.lemmas.List.append-nil t.accesses)) }

-- a refusal of the first part is one of the whole
pub refused_then : {X Y : Type 0} (p : Program (Result X StoreError)) (f : Result X StoreError → Program (Result Y StoreError)) (t u : Tx) (e : StoreError) → f (Err e) ≡ Done (Err e)
    → HasRun p t u (Err e) → HasRun (then_do p f) t u (Err e)
refused_then {X = X} {Y = Y} p f t u e ends run =
    let so : (x : StoreError) → f (Err x) ≡ Done (Err x) → Ran p t u (Err x) → Ran (then_do p f) t u (Err x) =
    λ x end ran. ran_at (then_do p f) t u (Err x) (at_as (then_do p f) _ _ t u end (at_then (then_do p f) p f t t u (Err x) (at_start (then_do p f) t) ran)) in
    elim e as (λ (x : StoreError). f (Err x) ≡ Done (Err x) → HasRun p t u (Err x) → HasRun (then_do p f) t u (Err x)) [
      | store.BadKey ↦ so store.BadKey
      | store.BadValue ↦ so store.BadValue
      | store.NoBlocks need free ↦ so (store.NoBlocks need free)
      | store.Broken block ↦ so (store.Broken block)
      | store.Tx x ↦ λ end cut. cut_then p f t u x cut
      | store.Memory ↦ λ end none. none
    ] ends run
