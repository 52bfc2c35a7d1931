-- A call of the file store that is made of parts.
use Rattle.iso_fs.proofs.Words.{◌≡◌, ◌≢◌, ◌∙◌, sym, refl, ap, subst, ℕ, ◌≤◌, Bool, true, length, Some, Result, Ok, Err, inr, arith, length-append, IfErr, false≢true, StoreError, TxError, own, Program, accesses_of, answer_of, then_do, Tx, Device, IsLater, Ran, IsCause, IsStoreCause, HasEnded, HasRead, Passed, accesses_then, HasAccess, IsAt, at_start, at_then, ran_at, stopped_at, cause_earlier, cause_since, cut_then, later_than, later_same, store_cause, cut_from, ends_from, read_join, stopped_from, FsError, Call, goes_on, in_tree, FsBehaves, HasRun, IsFsCause, IsUnwritten, may_follow, Access, Array, List, IfOk, IsLocal, IsLocalCall, whole_run}
use Rattle.store_model.specs.declared.stores.StoreError.TheVariants as store
use Rattle.tx_blocks.specs.Runs as runs
use Rattle.store_model.specs.declared.files.FsError.TheVariants as fs

-- a part that follows what is left of the call ends the call
pub run_from : {X : Type 0} (whole rest : Call X) (t u v : Tx) (result : Result X FsError) → IsAt whole rest t u → HasRun rest u v result → HasRun whole t v result
run_from whole rest t u v (Ok x) now run = ends_from whole rest t u v (Some (Ok x)) now run
run_from whole rest t u v (Err fs.BadName) now run = ends_from whole rest t u v (Some (Err fs.BadName)) now run
run_from whole rest t u v (Err fs.BadRange) now run = ends_from whole rest t u v (Some (Err fs.BadRange)) now run
run_from whole rest t u v (Err fs.Exists) now run = ends_from whole rest t u v (Some (Err fs.Exists)) now run
run_from whole rest t u v (Err (fs.Store store.BadKey)) now run = ends_from whole rest t u v (Some (Err (fs.Store store.BadKey))) now run
run_from whole rest t u v (Err (fs.Store store.BadValue)) now run = ends_from whole rest t u v (Some (Err (fs.Store store.BadValue))) now run
run_from whole rest t u v (Err (fs.Store (store.NoBlocks need free))) now run = ends_from whole rest t u v (Some (Err (fs.Store (store.NoBlocks need free)))) now run
run_from whole rest t u v (Err (fs.Store (store.Broken block))) now run = ends_from whole rest t u v (Some (Err (fs.Store (store.Broken block)))) now run
run_from whole rest t u v (Err (fs.Store (store.Tx e))) now run = cut_from whole rest t u v e now run
run_from whole rest t u v (Err (fs.Store store.Memory)) now run = stopped_from whole rest t u v now run

-- the same program by another name
pub run_as : {X : Type 0} (p q : Call X) (t u : Tx) (result : Result X FsError) → q ≡ p → HasRun p t u result → HasRun q t u result
run_as p q t u result e run = subst (λ (r : Call _). HasRun r t u result) (sym e) run

-- a program of which another one follows has an access where it has one itself
pub has_then : {R S : Type 0} (p : Program R) (f : R → Program S) → HasAccess p → HasAccess (then_do p f)
has_then p f has = λ A.
    let rest = accesses_of (f (answer_of p A)) (own A (accesses_of p A)) in
    omega (arith, (ap (λ xs. length xs) (accesses_then p f A) ∙ length-append (accesses_of p A) rest), has A)

module _ {X Y : Type 0} (whole : Call Y) (p : Program (Result X StoreError)) (next : X → Call Y) (t u v : Tx) (now : IsAt whole (in_tree p next) t u) where
  -- a call of the tree store was answered
  pub tree_done : (x : X) → HasEnded p u v (Ok x) → IsAt whole (next x) t v
  tree_done x ended = at_then whole p (goes_on next) t u v (Ok x) now ended

  told_so : (e : StoreError) → Ran p u v (Err e) → Ran whole t v (Err (fs.Store e))
  told_so e ran = ran_at whole t v (Err (fs.Store e)) (at_then whole p (goes_on next) t u v (Err e) now ran)

  -- it was refused
  pub tree_refused : (e : StoreError) → (e ≡ store.Memory → HasAccess p) → HasEnded p u v (Err e) → HasRun whole t v (Err (fs.Store e))
  tree_refused store.BadKey more ended = told_so store.BadKey ended
  tree_refused store.BadValue more ended = told_so store.BadValue ended
  tree_refused (store.NoBlocks need free) more ended = told_so (store.NoBlocks need free) ended
  tree_refused (store.Broken block) more ended = told_so (store.Broken block) ended
  tree_refused (store.Tx e) more ended = cut_from whole (in_tree p next) t u v e now (cut_then p (goes_on next) u v e ended)
  tree_refused store.Memory more ended = stopped_at whole (in_tree p next) t u v now ended (has_then p (goes_on next) (more refl))

-- without memory, where nothing is done yet
pub no_memory : {X : Type 0} (p : Call X) (t : Tx) (e : StoreError) → e ≡ store.Memory → HasAccess p → HasRun p t t (Err (fs.Store e))
no_memory p t e is has = subst (λ (x : StoreError). HasRun p t t (Err (fs.Store x))) (sym is) (stopped_at p p t t t (at_start p t) refl has)

-- CAUSES
store_since : (u : Tx) (few many : ℕ) (before mid now : Device) (e : StoreError) → few ≤ many → Passed before mid → IsStoreCause u few mid now e → IsStoreCause u many before now e
store_since u few many before mid now e le passed cause = store_cause u few many before now e le (cause_since u few before mid now e passed cause)

pub fs_since : (u : Tx) (few many : ℕ) (before mid now : Device) (e : FsError) → few ≤ many → Passed before mid → IsFsCause u few mid now e → IsFsCause u many before now e
fs_since u few many before mid now fs.BadName le passed cause = cause ∙ passed
fs_since u few many before mid now fs.BadRange le passed cause = cause ∙ passed
fs_since u few many before mid now fs.Exists le passed cause = cause ∙ passed
fs_since u few many before mid now (fs.Store e) le passed cause = store_since u few many before mid now e le passed cause

-- after reads that went well
pub behaves_after : {R : Type 0} {late : Bool} (t u v : Tx) (writes : ℕ) (before mid now : Device) (result : Result R FsError) → HasRead t u → IsLater before mid → mid.faults ≡ before.faults
    → FsBehaves late u v writes mid now result → FsBehaves late t v writes before now result
behaves_after t u v writes before mid now (Ok x) read later passed is = record { leaves = record { cause = tt; unwritten = tt; later = later_than before mid now later is.leaves.later; passed = is.leaves.passed ∙ passed }; known = tt }
behaves_after t u v writes before mid now (Err e) read later passed is = record {
  leaves = record {
    cause = fs_since v writes writes before mid now e (omega arith) passed is.leaves.cause;
    unwritten = λ other. read_join t u v read (is.leaves.unwritten other);
    later = later_than before mid now later is.leaves.later;
    passed = tt;
  };
  known = is.known;
}

-- after writes that went well
pub behaves_behind : {R : Type 0} {late : Bool} (t u v : Tx) (writes : ℕ) (before mid now : Device) (result : Result R FsError) → IfErr result (λ e. may_follow late e ≡ true) → IsLater before mid → mid.faults ≡ before.faults
    → FsBehaves late u v writes mid now result → FsBehaves late t v writes before now result
behaves_behind t u v writes before mid now (Ok x) follows later passed is = record { leaves = record { cause = tt; unwritten = tt; later = later_than before mid now later is.leaves.later; passed = is.leaves.passed ∙ passed }; known = tt }
behaves_behind t u v writes before mid now (Err e) follows later passed is = grind (arith, fs_since, later_than) steps 100000

-- a refusal of an access
pub refused_access : {R : Type 0} {late : Bool} (t v : Tx) (writes : ℕ) (before now : Device) (e : TxError) → 1 ≤ writes → IsCause v 1 before now e → IsLater before now → FsBehaves {R = R} late t v writes before now (Err (fs.Store (store.Tx e)))
refused_access t v writes before now e le cause later = record { leaves = record { cause = cause_earlier v 1 writes before before now e le refl cause; unwritten = λ other. absurd (false≢true (sym other)); later = later; passed = tt }; known = λ x. cc }

pub refused_store : {R : Type 0} {late : Bool} (t v : Tx) (writes : ℕ) (before now : Device) (e : TxError) → 1 ≤ writes → IsCause v 1 before now e → now ≡ before → FsBehaves {R = R} late t v writes before now (Err (fs.Store (store.Tx e)))
refused_store t v writes before now e le cause same = refused_access t v writes before now e le cause (later_same before now same)

-- a refusal after reads alone
pub refused_so : {R : Type 0} {late : Bool} (t v : Tx) (writes : ℕ) (before now : Device) (e : FsError) → HasRead t v → IsFsCause v writes before now e → e ≢ fs.BadName → IsLater before now → FsBehaves {R = R} late t v writes before now (Err e)
refused_so t v writes before now e read cause known later = record { leaves = record { cause = cause; unwritten = λ other. read; later = later; passed = tt }; known = known }

pub done_so : {R : Type 0} {late : Bool} (t v : Tx) (writes : ℕ) (before now : Device) (r : R) → IsLater before now → now.faults ≡ before.faults → FsBehaves late t v writes before now (Ok r)
done_so t v writes before now r later passed = record { leaves = record { cause = tt; unwritten = tt; later = later; passed = passed }; known = tt }

-- a call of the tree store was refused, which may make more than one write
pub unwritten_tree : (late : Bool) (t v : Tx) (e : StoreError) → runs.IsUnwritten t v 66 e → IsUnwritten late t v (fs.Store e)
unwritten_tree late t v (store.Tx e) is = λ other. absurd (false≢true (sym other))
unwritten_tree late t v e is = λ other. is (inr (λ x. cc))

-- a call that ran to Ok is local where its program is
pub call_local : {X M : Type 0} (Well : Array → Type 0) (map_of : Array → M) (op : M → X × M) (p : Call X) (t u : Tx) (result : Result X FsError) → HasRun p t u result
    → ((A : Array) (x : X) → t.base ≡ Some A → answer_of p (own A t.accesses) ≡ Ok x → IsLocal Well map_of op (own A t.accesses) (accesses_of p (own A t.accesses)) x) → IfOk result (IsLocalCall Well map_of op t u)
call_local Well map_of op p t u (Err e) run local = tt
call_local Well map_of op p t u (Ok x) run local = λ A told.
    let whole = whole_run p t u (Ok x) run A told in
    subst (λ (accesses : List Access). IsLocal Well map_of op (own A t.accesses) accesses x) whole.accesses_are (local A x told whole.answer_is)
