-- Where a call that follows a program is refused an access.
use Rattle.tx_blocks.proofs.{Words.{◌≡◌, ◌∙◌, sym, refl, ap, subst, ℕ, ◌≤◌, false, List, [], ◌∷◌, ◌++◌, length, Option, Result, Ok, Err, inl, inr, arith, append_assoc, append-nil, Rose, Access, Span, StoreError, TxError, is_write, Program, Look, Store, then_do, Tx, Device, IsLater, with_accesses, IsCut, IsCause, HasRead, IsStoreCause, IsUnwritten, Behaves, Passed, LookWhole, None, Ends, Stopped}, Programs.reads_append, Progress.{IsAt, at_start, stopped_at, stopped_then, full_at_look, full_at_store, full_at_whole, full_then}}
use Rattle.store_model.specs.declared.stores.StoreError.TheVariants as store
use Rattle.store_model.specs.declared.stores.TxError.TheVariants as error

-- a refused access cuts the call short: it does not fit, or the call is stopped before it
cut_so : {R : Type 0} (whole : Program R) (t u v : Tx) (before now : Device) (e : TxError) → (4096 ≤ length u.accesses → Ends whole t v None) → Stopped whole t v → v ≡ u → IsCause v 1 before now e → IsCut whole t v e
cut_so whole t u v before now error.TooManyAccesses full stop same cause = let e : length v.accesses ≡ length u.accesses = ap (λ (w : Tx). length w.accesses) same in full (let many = cause.0 in omega arith)
cut_so whole t u v before now error.Memory full stop same cause = stop
cut_so whole t u v before now error.Down full stop same cause = stop
cut_so whole t u v before now error.Disk full stop same cause = stop
cut_so whole t u v before now error.NotInTx full stop same cause = stop
cut_so whole t u v before now error.BadBlock full stop same cause = cause
cut_so whole t u v before now error.BadRange full stop same cause = cause
cut_so whole t u v before now error.NoAccess full stop same cause = cause
cut_so whole t u v before now error.TooManyMarks full stop same cause = cause

-- a read, one of a whole block, and a write
pub cut_at_look : {R : Type 0} (whole : Program R) (b : ℕ) (mark : Span) (further : List ℕ → Option Span) (next : List ℕ → List ℕ → Program R) (t u v : Tx) (before now : Device) (e : TxError)
    → IsAt whole (Look b mark further next) t u → v ≡ u → IsCause v 1 before now e → IsCut whole t v e
cut_at_look whole b mark further next t u v before now e at same =
    cut_so whole t u v before now e (full_at_look whole b mark further next t u v at same) (stopped_at whole (Look b mark further next) t u v at same (λ A. omega arith)) same

-- the first access of a call is refused
pub cut_first : {R : Type 0} (b : ℕ) (mark : Span) (further : List ℕ → Option Span) (next : List ℕ → List ℕ → Program R) (t u : Tx) (before now : Device) (e : TxError)
    → u ≡ t → IsCause u 1 before now e → IsCut (Look b mark further next) t u e
cut_first b mark further next t u before now e same = cut_at_look (Look b mark further next) b mark further next t t u before now e (at_start (Look b mark further next) t) same

pub cut_at_whole : {R : Type 0} (whole : Program R) (b : ℕ) (next : List ℕ → Program R) (t u v : Tx) (before now : Device) (e : TxError)
    → IsAt whole (LookWhole b next) t u → v ≡ u → IsCause v 1 before now e → IsCut whole t v e
cut_at_whole whole b next t u v before now e at same =
    cut_so whole t u v before now e (full_at_whole whole b next t u v at same) (stopped_at whole (LookWhole b next) t u v at same (λ A. omega arith)) same

pub cut_at_store : {R : Type 0} (whole : Program R) (b : ℕ) (spans : List Span) (bytes : List ℕ) (next : Program R) (t u v : Tx) (before now : Device) (e : TxError)
    → IsAt whole (Store b spans bytes next) t u → v ≡ u → IsCause v 1 before now e → IsCut whole t v e
cut_at_store whole b spans bytes next t u v before now e at same =
    cut_so whole t u v before now e (full_at_store whole b spans bytes next t u v at same) (stopped_at whole (Store b spans bytes next) t u v at same (λ A. omega arith)) same

-- a program that is cut short as another one is
pub cut_as : {R S : Type 0} (p : Program R) (q : Program S) (t u v : Tx) (e : TxError) → (Ends p t u None → Ends q v u None) → (Stopped p t u → Stopped q v u) → IsCut p t u e → IsCut q v u e
cut_as p q t u v error.TooManyAccesses ends stops = ends
cut_as p q t u v error.Memory ends stops = stops
cut_as p q t u v error.Down ends stops = stops
cut_as p q t u v error.Disk ends stops = stops
cut_as p q t u v error.NotInTx ends stops = stops
cut_as p q t u v error.BadBlock ends stops = λ never. never
cut_as p q t u v error.BadRange ends stops = λ never. never
cut_as p q t u v error.NoAccess ends stops = λ never. never
cut_as p q t u v error.TooManyMarks ends stops = λ never. never

-- a call whose first part is cut short
pub cut_then : {R S : Type 0} (p : Program R) (f : R → Program S) (t u : Tx) (e : TxError) → IsCut p t u e → IsCut (then_do p f) t u e
cut_then p f t u e = cut_as p (then_do p f) t u t e (full_then (then_do p f) p f t t u (at_start (then_do p f) t)) (stopped_then p f t u)

rose_earlier : (k m n : ℕ) → k ≤ m → Rose m n → Rose k n
rose_earlier k m n le rose = omega arith

-- a cause that holds since a later moment, of fewer writes, holds since an earlier one, of more, where the disk did not fail between
pub cause_earlier : (u : Tx) (few many : ℕ) (before mid now : Device) (e : TxError) → few ≤ many → Passed before mid → IsCause u few mid now e → IsCause u many before now e
cause_earlier u few many before mid now error.BadBlock le later cause = cause
cause_earlier u few many before mid now error.BadRange le later cause = cause
cause_earlier u few many before mid now error.NoAccess le later cause = cause
cause_earlier u few many before mid now error.TooManyMarks le later cause = cause
cause_earlier u few many before mid now error.TooManyAccesses le later cause = (omega (arith, le, cause.0), cause.1 ∙ later)
cause_earlier u few many before mid now error.Down le later cause = (cause.0, cause.1 ∙ later)
cause_earlier u few many before mid now error.Disk le later cause = rose_earlier before.faults mid.faults now.faults (omega (arith, later)) cause
cause_earlier u few many before mid now error.Memory le later cause = cause ∙ later
cause_earlier u few many before mid now error.NotInTx le later cause = (cause.0, cause.1 ∙ later)

-- a cause of a store's refusal, of fewer writes, is one of more
pub store_cause : (u : Tx) (few many : ℕ) (before now : Device) (e : StoreError) → few ≤ many → IsStoreCause u few before now e → IsStoreCause u many before now e
store_cause u few many before now store.BadKey le cause = cause
store_cause u few many before now store.BadValue le cause = cause
store_cause u few many before now (store.NoBlocks need free) le cause = cause
store_cause u few many before now (store.Broken block) le cause = cause
store_cause u few many before now (store.Tx e) le cause = cause_earlier u few many before before now e le refl cause
store_cause u few many before now store.Memory le cause = cause

-- and since an earlier moment
pub cause_since : (u : Tx) (writes : ℕ) (before mid now : Device) (e : StoreError) → Passed before mid → IsStoreCause u writes mid now e → IsStoreCause u writes before now e
cause_since u writes before mid now store.BadKey passed cause = cause ∙ passed
cause_since u writes before mid now store.BadValue passed cause = cause ∙ passed
cause_since u writes before mid now (store.NoBlocks need free) passed cause = cause ∙ passed
cause_since u writes before mid now (store.Broken block) passed cause = cause ∙ passed
cause_since u writes before mid now (store.Tx e) passed cause = cause_earlier u writes writes before mid now e (omega arith) passed cause
cause_since u writes before mid now store.Memory passed cause = cause ∙ passed

-- what a call that makes more writes has not written
pub unwritten_more : (t u : Tx) (few many : ℕ) (e : StoreError) → few ≤ many → IsUnwritten t u few e → IsUnwritten t u many e
unwritten_more t u few many e le is (inl small) = is (inl (omega (arith, le, small)))
unwritten_more t u few many e le is (inr other) = is (inr other)

-- a part behaves as a part that may make more writes
pub behaves_more : {R : Type 0} (t u : Tx) (few many : ℕ) (before now : Device) (result : Result R StoreError) → few ≤ many → Behaves t u few before now result → Behaves t u many before now result
behaves_more t u few many before now (Ok r) le is = record { cause = tt; unwritten = tt; known = tt; later = is.later; passed = is.passed }
behaves_more t u few many before now (Err e) le is = record {
  cause = store_cause u few many before now e le is.cause;
  unwritten = unwritten_more t u few many e le is.unwritten;
  known = is.known;
  later = is.later;
  passed = tt;
}

pub later_than : (before mid now : Device) → IsLater before mid → IsLater mid now → IsLater before now
later_than before mid now one two = record { faults = omega (arith, one.faults, two.faults); down = λ d. two.down (one.down d) }

pub later_same : (before now : Device) → now ≡ before → IsLater before now
later_same before now same = subst (λ (d : Device). IsLater before d) (sym same) (record { faults = omega arith; down = λ d. d })

-- reads that came
pub read_none : (t : Tx) → HasRead t t
read_none t = record { done = []; is = sym (ap (λ accesses. record t { accesses = accesses }) (append-nil t.accesses)); reads = tt }

pub read_more : (t u v : Tx) (a : Access) → HasRead t u → v ≡ with_accesses u (a ∷ []) → is_write a ≡ false → HasRead t v
read_more t u v a has is read = record {
  done = has.done ++ a ∷ [];
  is = is ∙ ap (λ (w : Tx). with_accesses w (a ∷ [])) has.is ∙ ap (λ accesses. record t { accesses = accesses }) (append_assoc t.accesses has.done (a ∷ []));
  reads = reads_append has.done (a ∷ []) has.reads (read, tt);
}

pub read_same : (t u v : Tx) → HasRead t u → v ≡ u → HasRead t v
read_same t u v has same = subst (HasRead t) (sym same) has

pub read_one : (t u : Tx) (a : Access) → u ≡ with_accesses t (a ∷ []) → is_write a ≡ false → HasRead t u
read_one t u a is read = read_more t t u a (read_none t) is read

pub read_base : (t u : Tx) → HasRead t u → u.base ≡ t.base
read_base t u has = ap (λ (w : Tx). w.base) has.is

pub read_size : (t u : Tx) → HasRead t u → u.size ≡ t.size
read_size t u has = ap (λ (w : Tx). w.size) has.is
