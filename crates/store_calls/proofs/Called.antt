-- What a call of a store on any transaction has done.
use Rattle.store_calls.proofs.Words.{◌≡◌, ◌⊎◌, ◌∙◌, sym, refl, ap, subst, ℕ, true, List, [], ◌∷◌, append-nil, take, Option, Some, None, Result, Ok, Err, inl, inr, false≢true, Access, Reply, StoreError, TxError, FsError, IfErr, OnOk, IsCut, Call, Program, outcome, Tx, Device, room_of, with_accesses, Began, Ends, Ran, HasEnded, HasRefused, HasRun, IsFsCause, IsStoreCause, Passed, WantsMemory, Array, own, file_refusal, store_refusal, store_reply, Stop, HasCalled, Stops, file_refusal_of, filed, of_store, refusal_of, refused_access, replied, stored, told}
use Rattle.store_model.specs.declared.stores.StoreError.TheVariants as store
use Rattle.store_model.specs.declared.stores.TxError.TheVariants as error
use Rattle.store_model.specs.declared.files.FsError.TheVariants as fs
use Rattle.script_model.specs.declared.script.Reply.TheVariants as reply
use Rattle.script_model.specs.declared.stop.Stop.TheVariants as stop

take-zero : {X : Type 0} (xs : List X) → ◌≡◌ {A = List X} (take 0 xs) []
take-zero [] = refl
take-zero (x ∷ xs) = refl

same_error : {X : Type 0} (e f : StoreError) → ◌≡◌ {A = Result X StoreError} (Err e) (Err f) → e ≡ f
same_error e f is = cc

pub no_more : (t : Tx) → t ≡ with_accesses t []
no_more t = ap (λ (xs : List Access). let u : Tx = record t { accesses = xs } in u) (sym (append-nil t.accesses))

-- a call of a program, by what it is answered where it refuses and where it answers
module _ {E R : Type 0} (p : Program (Result R E)) (t u : Tx) (refusal : E → Reply) (answer : R → Reply) where
  abbrev replies_of : ℕ → Array → List Access × Reply
  replies_of room A = replied refusal answer (outcome room p A)

  -- the program ended so
  pub ended_so : (end : Option (Result R E)) → Ends p t u end → HasCalled replies_of t u (Ok (store_reply refusal answer end))
  ended_so end ended = record { done = ended.done; is = ended.is; told = λ A told. ap (replied refusal answer) (ended.told A told); stopped = tt }

  -- the call has no reply
  pub stopped : (why : Stop) → Began p t u → HasCalled replies_of t u (Err why)
  stopped why began = record { done = began.done; is = began.is; told = tt; stopped = began.told }

  -- the transaction refused an access
  pub cut : (e : TxError) → IsCut p t u e → HasCalled replies_of t u (refused_access e)
  cut error.TooManyAccesses ended = ended_so None ended
  cut error.Memory ended = stopped stop.Memory ended.began
  cut error.Disk ended = stopped stop.Disk ended.began
  cut error.Down ended = stopped stop.Down ended.began
  cut error.NotInTx ended = stopped stop.Down ended.began
  cut error.BadBlock ended = absurd ended
  cut error.BadRange ended = absurd ended
  cut error.NoAccess ended = absurd ended
  cut error.TooManyMarks ended = absurd ended

-- a call of the hash store or the tree store that is refused
module _ {R : Type 0} (p : Program (Result R StoreError)) (t u : Tx) (answer : R → Reply) where
  abbrev call : ℕ → Array → List Access × Reply
  call room A = stored answer (outcome room p A)

  pub called_err : (e : StoreError) → HasEnded p t u (Err e) → HasCalled call t u (refusal_of e)
  called_err store.BadKey ended = ended_so p t u store_refusal answer (Some (Err store.BadKey)) ended
  called_err store.BadValue ended = ended_so p t u store_refusal answer (Some (Err store.BadValue)) ended
  called_err (store.NoBlocks need free) ended = ended_so p t u store_refusal answer (Some (Err (store.NoBlocks need free))) ended
  called_err (store.Broken block) ended = ended_so p t u store_refusal answer (Some (Err (store.Broken block))) ended
  called_err (store.Tx e) ended = cut p t u store_refusal answer e ended
  called_err store.Memory ended = record { done = []; is = ended ∙ no_more t; told = tt; stopped = λ A told. (0, sym (take-zero (call (room_of t) (own A t.accesses)).0)) }

  -- a scan
  pub scanned_err : (e : StoreError) → HasEnded p t u (Err e) ⊎ WantsMemory p t u (Err e) → HasCalled call t u (refusal_of e)
  scanned_err e (inl ended) = called_err e ended
  scanned_err e (inr wants) = subst (λ (x : StoreError). HasCalled call t u (refusal_of x)) (sym (same_error {X = R} e (store.Tx error.Memory) wants.0)) (stopped p t u store_refusal answer stop.Memory wants.1)

-- a call on files that is refused
module _ {R : Type 0} (p : Call R) (t u : Tx) (answer : R → Reply) where
  abbrev file_call : ℕ → Array → List Access × Reply
  file_call room A = filed answer (outcome room p A)

  refused_so : (e : FsError) → Ran p t u (Err e) → HasCalled file_call t u (Ok (file_refusal e))
  refused_so e ran = ended_so p t u file_refusal answer (Some (Err e)) ran

  store_err : (e : StoreError) → HasRefused p t u e → HasCalled file_call t u (refusal_of e)
  store_err store.BadKey ran = refused_so (fs.Store store.BadKey) ran
  store_err store.BadValue ran = refused_so (fs.Store store.BadValue) ran
  store_err (store.NoBlocks need free) ran = refused_so (fs.Store (store.NoBlocks need free)) ran
  store_err (store.Broken block) ran = refused_so (fs.Store (store.Broken block)) ran
  store_err (store.Tx e) ended = cut p t u file_refusal answer e ended
  store_err store.Memory ended = stopped p t u file_refusal answer stop.Memory ended.began

  pub file_err : (e : FsError) → HasRun p t u (Err e) → HasCalled file_call t u (file_refusal_of e)
  file_err fs.BadName ran = refused_so fs.BadName ran
  file_err fs.BadRange ran = refused_so fs.BadRange ran
  file_err fs.Exists ran = refused_so fs.Exists ran
  file_err (fs.Store e) ended = store_err e ended

-- an answer, or want of memory
replies : {before now : Device} (said : Reply) → Passed before now → Stops before now (Ok said)
replies said passed = record { down = λ e. absurd (cc e); disk = λ e. absurd (cc e); passed = λ other. passed }

no_memory : {before now : Device} → Passed before now → Stops before now (Err stop.Memory)
no_memory passed = record { down = λ e. absurd (cc e); disk = λ e. absurd (cc e); passed = λ other. passed }

-- why a call that was made so has no reply, by why the store refuses
module _ (t u : Tx) (before now : Device) (writes : ℕ) (ended : ℕ → Array → List Access × Reply) (r : Result Reply Stop) (opened : t.is_open ≡ true) (called : HasCalled ended t u r) where
  pub stops_err : (e : StoreError) → IsStoreCause u writes before now e → Stops before now (refusal_of e)
  stops_err store.BadKey cause = replies reply.BadKey cause
  stops_err store.BadValue cause = replies reply.BadValue cause
  stops_err (store.NoBlocks need free) cause = replies (reply.NoBlocks need free) cause
  stops_err (store.Broken block) cause = replies (reply.Broken block) cause
  stops_err (store.Tx error.TooManyAccesses) cause = replies reply.TooManyAccesses cause.1
  stops_err (store.Tx error.Memory) cause = no_memory cause
  stops_err (store.Tx error.Disk) cause = record { down = λ e. absurd (cc e); disk = λ e. cause; passed = λ other. absurd (other refl) }
  stops_err (store.Tx error.Down) cause = record { down = λ e. cause.0; disk = λ e. absurd (cc e); passed = λ other. cause.1 }
  stops_err (store.Tx error.NotInTx) cause = absurd (false≢true (sym cause.0 ∙ ap (λ (v : Tx). v.is_open) called.is ∙ opened))
  stops_err (store.Tx error.BadBlock) cause = absurd cause
  stops_err (store.Tx error.BadRange) cause = absurd cause
  stops_err (store.Tx error.NoAccess) cause = absurd cause
  stops_err (store.Tx error.TooManyMarks) cause = absurd cause
  stops_err store.Memory cause = no_memory cause

  pub file_stops : (e : FsError) → IsFsCause u writes before now e → Stops before now (file_refusal_of e)
  file_stops fs.BadName cause = replies reply.BadName cause
  file_stops fs.BadRange cause = replies reply.BadRange cause
  file_stops fs.Exists cause = replies reply.Exists cause
  file_stops (fs.Store e) cause = stops_err e cause

-- A call of a store as its answer is told: what it has done, and why it has no reply.
module _ {R : Type 0} (t u : Tx) (answer : R → Reply) (before now : Device) (writes : ℕ) (opened : t.is_open ≡ true) (said : Result Reply Stop) where
  abbrev Both : (ℕ → Array → List Access × Reply) → Result Reply Stop → Type 0
  Both call told = HasCalled call t u told × Stops before now told

  file_both : (p : Call R) (r : Result R FsError) → HasRun p t u r → IfErr r (IsFsCause u writes before now) → OnOk r (Passed before now) → Both (λ room A. filed answer (outcome room p A)) (told answer r)
  file_both p (Ok x) ended cause passed = (ended_so p t u file_refusal answer (Some (Ok x)) ended, replies (answer x) passed)
  file_both p (Err e) ended cause passed = let called = file_err p t u answer e ended in (called, file_stops t u before now writes _ _ opened called e cause)

  store_both : (p : Program (Result R StoreError)) (r : Result R StoreError) → HasEnded p t u r → IfErr r (IsStoreCause u writes before now) → OnOk r (Passed before now) → Both (λ room A. stored answer (outcome room p A)) (told answer (of_store r))
  store_both p (Ok x) ended cause passed = (ended_so p t u store_refusal answer (Some (Ok x)) ended, replies (answer x) passed)
  store_both p (Err e) ended cause passed = let called = called_err p t u answer e ended in (called, stops_err t u before now writes _ _ opened called e cause)

  pub file_told : (p : Call R) (r : Result R FsError) → said ≡ told answer r → HasRun p t u r → IfErr r (IsFsCause u writes before now) → OnOk r (Passed before now) → Both (λ room A. filed answer (outcome room p A)) said
  file_told p r is ended cause passed = rw is (file_both p r ended cause passed)

  pub store_told : (p : Program (Result R StoreError)) (r : Result R StoreError) (as_filed : Result R FsError) → as_filed ≡ of_store r → said ≡ told answer as_filed → HasEnded p t u r → IfErr r (IsStoreCause u writes before now) → OnOk r (Passed before now)
      → Both (λ room A. stored answer (outcome room p A)) said
  store_told p r as_filed from is ended cause passed = rw (is, from) (store_both p r ended cause passed)

  pub scan_refused : (p : Program (Result R StoreError)) (e : StoreError) → said ≡ refusal_of e → HasEnded p t u (Err e) ⊎ WantsMemory p t u (Err e) → IsStoreCause u writes before now e
      → Both (λ room A. stored answer (outcome room p A)) said
  scan_refused p e is ended cause = let called = scanned_err p t u answer e ended in rw is (called, stops_err t u before now writes _ _ opened called e cause)
