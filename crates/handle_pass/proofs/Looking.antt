-- How one call on a session's transaction answers a store.
use Rattle.handle_pass.proofs.{Words.{◌≡◌, ◌≢◌, ℕ, ◌<◌, ◌≤◌, Bool, true, false, not, if◌then◌else◌, List, [], ◌∷◌, ◌++◌, Option, Some, None, Result, Ok, Err, length, nat_le, inl, inr, refl, sym, ap, ◌∙◌, subst, arith, is_some, nat_tests, append-nil, length_push, Rose, Access, TxError, marked, block_at, read_access, write_access, length-marked, Cause, Start, span_at, Device, IsArrayOf, IsFree, IsLater, IsRefused, IsTx, access_refusal, with_accesses, HasMarked, HasRead, HasWritten, IsReadCause, IsWriteCause, access_answer, accesses_of, mark_answer, tx_on, with_access, Looked, Marked, Wrote, down_in, failed_in, failures_in, Own, Made, Rested, Failed, IsVisit, Seen, Visited, base_of, blocks_read, seen_by, SessionState, HasItsBegin}, Visiting.{blocks_append, blocks_marked, none_refused, told_by, visit_fetched, visit_refused, visit_rested}}
use Rattle.store_model.specs.declared.stores.TxError.TheVariants as error
use Rattle.iso_model.specs.Effect as effect
use Rattle.iso_shared.specs.declared.entry.Call.TheVariants as call
use Rattle.iso_shared.specs.declared.entry.Cause.TheVariants as cause
use Rattle.iso_shared.specs.declared.entry.Entry.TheVariants as entry
use Rattle.tx_blocks.specs.Tx.{Tx}

no_error : {T E : Type 0} (x : T) (e : E) → ◌≡◌ {A = Result T E} (Ok x) (Err e) → ⊥
no_error x e is = cc

-- an access that was not refused is one to a block of the image, and had room
module _ (free : TxError → Type 0) (done : Unit {0}) where
  tests : (a b c : Bool)
      → IsRefused {T = Unit {0}} (if not a then Some error.NotInTx else if b then Some error.BadBlock else if c then Some error.TooManyAccesses else None) free (Ok done)
      → (b ≡ false) × (c ≡ false)
  tests true false false may = (refl, refl)
  tests true false true may = absurd (no_error done error.TooManyAccesses may)
  tests true true c may = absurd (no_error done error.BadBlock may)
  tests false b c may = absurd (no_error done error.NotInTx may)

  pub may_access : (t : Tx) (block : ℕ) → IsRefused (access_refusal t block) free (Ok done) → (block < t.blocks) × (length t.accesses < 4096)
  may_access t block may =
      let r = tests t.is_open (nat_le t.blocks block) (nat_le 4096 (length t.accesses)) may in
      (below t.blocks block r.0, below 4096 (length t.accesses) r.1)
    where
      below : (m n : ℕ) → nat_le m n ≡ false → n < m
      below m n e = grind (arith, nat_tests)

-- refused by the same tests, and else for other causes
refused_as : (o : Option TxError) (free other : TxError → Type 0) (r : Result (Unit {0}) TxError) → ((e : TxError) → free e → r ≡ Err e → other e) → IsRefused o free r → IsRefused o other r
refused_as (Some f) free other r each is = is
refused_as None free other (Ok done) each is = tt
refused_as None free other (Err e) each is = each e is refl

-- the limits of a transaction with other accesses
limits_with : (t : Tx) (accesses : List Access) (is_open : Bool) → length accesses ≤ 4096 → IsTx t → IsTx (record t { accesses = accesses; is_open = is_open })
limits_with t accesses is_open few is = record {
  least = is.least;
  most = is.most;
  few = is.few;
  base = λ B told. (let shape : IsArrayOf t B = is.base B told in record { blocks = shape.blocks; bytes = shape.bytes });
  count = few;
}

-- what the first read that ends so leaves of the device
abbrev after_read : (r : Result (Unit {0}) TxError) → Device
after_read r = record { faults = failures_in r; is_down = down_in r }

abbrev first_device : Device
first_device = record { faults = 0; is_down = false }

read_free : (e : TxError) → IsReadCause e → IsFree first_device (after_read (Err e)) e
read_free e (inl is) = subst (λ f. IsFree first_device (after_read (Err f)) f) (sym is) refl
read_free e (inr (inl is)) = subst (λ f. IsFree first_device (after_read (Err f)) f) (sym is) refl
read_free e (inr (inr is)) = subst (λ f. IsFree first_device (after_read (Err f)) f) (sym is) (omega arith)

-- no other refusal is a fault of the disk
none_failed : (e : TxError) → ◌≢◌ {A = Result (Unit {0}) TxError} (Err e) (Err error.Disk) → failures_in (Err e) ≡ 0
none_failed error.Disk other = absurd (other refl)
none_failed e other = refl

later_first : (d : Device) → IsLater first_device d
later_first d = record { faults = omega arith; down = λ is. absurd (cc is) }

module _ (A : Start) (before : Option SessionState) where
  -- the transaction that a store sees, by the session's own
  abbrev shown : Option Own → Tx
  shown x = record { size = A.world.geometry.block; blocks = A.world.geometry.blocks; base = base_of A before; accesses = accesses_of x; is_open = is_some x }

  limits_of : (x y : Option Own) → length (accesses_of y) ≤ 4096 → IsTx (shown x) → IsTx (shown y)
  limits_of x y few is = limits_with (shown x) (accesses_of y) (is_some y) few is

  limits_same : (x y : Option Own) → y ≡ x → IsTx (shown x) → IsTx (shown y)
  limits_same x y same is = subst (λ w. IsTx (shown w)) (sym same) is

  -- one access more
  shown_more : (x y : Option Own) (o : Own) (a : Access) → x ≡ Some o → y ≡ Some (with_access o a) → shown y ≡ with_accesses (shown x) (a ∷ [])
  shown_more x y o a was is = ap shown is ∙ sym (ap (λ w. with_accesses (shown w) (a ∷ [])) was)

  few_more : (x y : Option Own) (o : Own) (a : Access) → x ≡ Some o → y ≡ Some (with_access o a) → length (accesses_of x) < 4096 → length (accesses_of y) ≤ 4096
  few_more x y o a was is room =
      let m : length (accesses_of y) ≡ length (o.accesses ++ a ∷ []) = ap (λ w. length (accesses_of w)) is in
      let n : length (accesses_of x) ≡ length o.accesses = ap (λ w. length (accesses_of w)) was in
      omega (arith, m, n, room, length_push o.accesses a)

  -- a first read that is refused
  looked_err : (s t : SessionState) (block : ℕ) (e : TxError) (into : List ℕ) → t.own ≡ s.own → IsRefused {T = Unit {0}} (access_answer A s block) IsReadCause (Err e) → IsTx (shown s.own)
      → Looked (seen_by A before s 0 false) (seen_by A before t (failures_in (Err e)) (down_in (Err e))) block (Err e) into
  looked_err s t block e into same cause limits = record {
    bytes = tt;
    read = tt;
    kept = ap shown same;
    cause = refused_as (access_answer A s block) IsReadCause (IsFree first_device (after_read (Err e))) (Err e)
        (λ f is here. subst (λ g. IsFree first_device (after_read g) f) (sym here) (read_free f is)) cause;
    later = later_first (after_read (Err e));
    passed = none_failed e;
    limits = limits_same s.own t.own same limits;
  }

  looked_ok : (s t was : SessionState) (refused : Option (ℕ × Cause)) (v : Visited A was s refused) (block : ℕ) (into : List ℕ) (done : Unit {0}) → before ≡ Some was → HasItsBegin A was → IsRefused (access_answer A s block) IsReadCause (Ok done)
      → HasRead A s block (Ok done) into t → length into ≡ A.world.geometry.block → IsTx (shown s.own) → Looked (seen_by A before s 0 false) (seen_by A before t 0 false) block (Ok done) into
  looked_ok s t was refused v block into done is first cause did size limits =
      let may = may_access IsReadCause done (tx_on A s None) block cause in
      let told = told_by A was s t refused v did.0 block did.3 into first did.1 did.4 may.0 size in
      record {
        bytes = λ B base.
            let at : did.3 ≡ block_at B block = told B (sym (ap (base_of A) is) ∙ base) in
            did.4.laid B (sym at) ∙ ap (λ w. block_at (effect.own B (accesses_of w)) block) (sym did.1);
        read = shown_more s.own t.own did.0 (read_access block) did.1 did.2;
        kept = tt;
        cause = refused_as (access_answer A s block) IsReadCause (IsFree first_device first_device) (Ok done) (λ f is here. absurd (no_error done f here)) cause;
        later = later_first first_device;
        passed = λ other. refl;
        limits = limits_of s.own t.own (few_more s.own t.own did.0 (read_access block) did.1 did.2 may.1) limits;
      }

  -- a read that is made, where none was refused yet
  pub record Fetched (s t : SessionState) (block : ℕ) (r : Result (Unit {0}) TxError) (into : List ℕ) : Type 0 where
    pub visit : IsVisit A before t (failures_in r) (down_in r)
    pub looked : Looked (seen_by A before s 0 false) (seen_by A before t (failures_in r) (down_in r)) block r into

  -- one that changed nothing
  unchanged : (s t : SessionState) (block : ℕ) (e : TxError) (into : List ℕ) → t ≡ s → IsVisit A before s (failures_in (Err e)) (down_in (Err e)) → IsRefused {T = Unit {0}} (access_answer A s block) IsReadCause (Err e) → Fetched s t block (Err e) into
  unchanged s t block e into same is cause = record {
    visit = subst (λ u. IsVisit A before u (failures_in (Err e)) (down_in (Err e))) (sym same) is;
    looked = looked_err s t block e into (ap (λ (v : SessionState). v.own) same) cause is.limits;
  }

  -- no fetch was refused so far
  sound_visit : (s : SessionState) (is : IsVisit A before s 0 false) → Visited A is.was s None
  sound_visit s is = subst (Visited A is.was s) (none_refused is.refused is.failed) is.made

  -- one that the device refused
  refused_by : (s t : SessionState) (block : ℕ) (e : TxError) (why : Cause) (into : List ℕ) (o : Own) → IsVisit A before s 0 false → s.own ≡ Some o → t.own ≡ Some o
      → Made A s t (entry.Refused (call.Fetch o.number block) why)
      → Failed (Some (block, why)) (failures_in (Err e)) (down_in (Err e)) → IsRefused {T = Unit {0}} (access_answer A s block) IsReadCause (Err e) → Fetched s t block (Err e) into
  refused_by s t block e why into o is was now made failed cause = record {
    visit = record {
      was = is.was;
      is = is.is;
      begun = is.begun;
      refused = Some (block, why);
      made = visit_refused A is.was s t (sound_visit s is) o block why was now made;
      failed = failed;
      limits = limits_same s.own t.own (now ∙ sym was) is.limits;
    };
    looked = looked_err s t block e into (now ∙ sym was) cause is.limits;
  }

  pub fetched : (s t : SessionState) (block : ℕ) (r : Result (Unit {0}) TxError) (into : List ℕ) → IsVisit A before s 0 false → IsRefused (access_answer A s block) IsReadCause r → HasRead A s block r into t
      → length into ≡ A.world.geometry.block → Fetched s t block r into
  fetched s t block (Ok done) into is because did size =
      let looked = looked_ok s t is.was None (sound_visit s is) block into done is.is is.begun because did size is.limits in
      let may = may_access IsReadCause done (tx_on A s None) block because in
      record {
        visit = record {
          was = is.was;
          is = is.is;
          begun = is.begun;
          refused = None;
          made = visit_fetched A is.was s t (sound_visit s is) did.0 (read_access block) did.3 did.1 did.2 refl did.4.made
              (told_by A is.was s t None (sound_visit s is) did.0 block did.3 into is.begun did.1 did.4 may.0 size);
          failed = (refl, refl);
          limits = looked.limits;
        };
        looked = looked;
      }
  fetched s t block (Err error.Down) into is because did size =
      refused_by s t block error.Down cause.Down into did.0 is did.1 did.2 did.3 (refl, refl) because
  fetched s t block (Err error.Disk) into is because did size =
      refused_by s t block error.Disk (cause.Disk did.3 did.4) into did.0 is did.1 did.2 did.5 (omega arith, refl) because
  fetched s t block (Err error.BadBlock) into is because did size = unchanged s t block error.BadBlock into did is because
  fetched s t block (Err error.BadRange) into is because did size = unchanged s t block error.BadRange into did is because
  fetched s t block (Err error.NoAccess) into is because did size = unchanged s t block error.NoAccess into did is because
  fetched s t block (Err error.TooManyMarks) into is because did size = unchanged s t block error.TooManyMarks into did is because
  fetched s t block (Err error.TooManyAccesses) into is because did size = unchanged s t block error.TooManyAccesses into did is because
  fetched s t block (Err error.Memory) into is because did size = unchanged s t block error.Memory into did is because
  fetched s t block (Err error.NotInTx) into is because did size = unchanged s t block error.NotInTx into did is because

  -- the same where the counts are told otherwise
  sound_counts : (failures : ℕ) (is_down : Bool) → failed_in (record { faults = failures; is_down = is_down }) ≡ false → (failures ≡ 0) × (is_down ≡ false)
  sound_counts failures true never = absurd (cc never)
  sound_counts failures false sound = (grind (arith, nat_tests), refl)

  pub tried : (s t : SessionState) (failures : ℕ) (is_down : Bool) (count : ℕ) (fell : Bool) (old : Seen) (block : ℕ) (r : Result (Unit {0}) TxError) (into : List ℕ) → seen_by A before s failures is_down ≡ old
      → failed_in old.device ≡ false → IsVisit A before s failures is_down → IsRefused (access_answer A s block) IsReadCause r → HasRead A s block r into t → length into ≡ A.world.geometry.block
      → count ≡ failures_in r → fell ≡ down_in r → IsVisit A before t count fell × Looked old (seen_by A before t count fell) block r into
  tried s t failures is_down count fell old block r into is sound visit because did size counts falls =
      let none = sound_counts failures is_down (ap (λ (v : Seen). failed_in v.device) is ∙ sound) in
      let first : IsVisit A before s 0 false = subst (λ b. IsVisit A before s 0 b) none.1 (subst (λ (n : ℕ). IsVisit A before s n is_down) none.0 visit) in
      let f : Fetched s t block r into = fetched s t block r into first because did size in
      let same : seen_by A before s 0 false ≡ old = sym (λ i. seen_by A before s (none.0 i) (none.1 i)) ∙ is in (
        subst (λ b. IsVisit A before t count b) (sym falls) (subst (λ (n : ℕ). IsVisit A before t n (down_in r)) (sym counts) f.visit),
        subst (λ (v : Seen). Looked v (seen_by A before t count fell) block r into) same
            (subst (λ b. Looked (seen_by A before s 0 false) (seen_by A before t count b) block r into) (sym falls)
            (subst (λ (n : ℕ). Looked (seen_by A before s 0 false) (seen_by A before t n (down_in r)) block r into) (sym counts) f.looked)),
      )

  -- a visit that goes on without an entry
  pub rested_visit : (s t : SessionState) (failures : ℕ) (is_down : Bool) (o : Own) (l : List Access) (is : IsVisit A before s failures is_down) → s.own ≡ Some o → t.own ≡ Some (record o { accesses = l })
      → blocks_read l ≡ blocks_read o.accesses → Rested s t → IsTx (shown t.own) → IsVisit A before t failures is_down
  rested_visit s t failures is_down o l is was now same rested limits = record {
    was = is.was;
    is = is.is;
    begun = is.begun;
    refused = is.refused;
    made = visit_rested A is.was s t is.refused is.made o l was now same rested;
    failed = is.failed;
    limits = limits;
  }

  -- what a write or a mark leaves
  pub record Changed (s t : SessionState) (failures : ℕ) (is_down : Bool) (P : Type 0) : Type 0 where
    pub visit : IsVisit A before t failures is_down
    pub seen : P

  pub wrote : (s t : SessionState) (failures : ℕ) (is_down : Bool) (block : ℕ) (bytes : List ℕ) (r : Result (Unit {0}) TxError) (is : IsVisit A before s failures is_down)
      → IsRefused (access_answer A s block) IsWriteCause r → HasWritten s block bytes r t
      → Changed s t failures is_down (Wrote (seen_by A before s failures is_down) (seen_by A before t failures is_down) block bytes r)
  wrote s t failures is_down block bytes (Ok done) is cause did =
      let may = may_access IsWriteCause done (tx_on A s None) block cause in
      let a : Access = write_access block bytes in
      let limits = limits_of s.own t.own (few_more s.own t.own did.0 a did.1 did.2 may.1) is.limits in
      record {
        visit = rested_visit s t failures is_down did.0 (did.0.accesses ++ a ∷ []) is did.1 did.2 (blocks_append did.0.accesses (a ∷ []) ∙ append-nil (blocks_read did.0.accesses)) did.3 limits;
        seen = record {
          written = shown_more s.own t.own did.0 a did.1 did.2;
          kept = tt;
          cause = cause;
          device = refl;
          limits = limits;
        };
      }
  wrote s t failures is_down block bytes (Err e) is cause did = record {
    visit = subst (λ u. IsVisit A before u failures is_down) (sym did) is;
    seen = record {
      written = tt;
      kept = ap (λ u. shown u.own) did;
      cause = cause;
      device = refl;
      limits = limits_same s.own t.own (ap (λ (v : SessionState). v.own) did) is.limits;
    };
  }

  pub marked_by : (s t : SessionState) (failures : ℕ) (is_down : Bool) (off len : ℕ) (r : Result (Unit {0}) TxError) (is : IsVisit A before s failures is_down)
      → IsRefused (mark_answer A s off len) (λ e. ⊥) r → HasMarked s off len r t
      → Changed s t failures is_down (Marked (seen_by A before s failures is_down) (seen_by A before t failures is_down) off len r)
  marked_by s t failures is_down off len (Ok done) is cause did =
      let span = span_at off len in
      let l : List Access = marked span did.0.accesses in
      let count : length (accesses_of t.own) ≡ length (accesses_of s.own) =
      ap (λ w. length (accesses_of w)) did.2 ∙ length-marked span did.0.accesses ∙ sym (ap (λ w. length (accesses_of w)) did.1) in
      let few : length (accesses_of s.own) ≤ 4096 = is.limits.count in
      let limits = limits_of s.own t.own (omega (arith, count, few)) is.limits in
      record {
        visit = rested_visit s t failures is_down did.0 l is did.1 did.2 (blocks_marked span did.0.accesses) did.3 limits;
        seen = record {
          marked = ap shown did.2 ∙ sym (ap (λ w. (let v : Tx = record (shown w) { accesses = marked span (shown w).accesses } in v)) did.1);
          kept = tt;
          cause = cause;
          device = refl;
          limits = limits;
        };
      }
  marked_by s t failures is_down off len (Err e) is cause did = record {
    visit = subst (λ u. IsVisit A before u failures is_down) (sym did) is;
    seen = record {
      marked = tt;
      kept = ap (λ u. shown u.own) did;
      cause = cause;
      device = refl;
      limits = limits_same s.own t.own (ap (λ (v : SessionState). v.own) did) is.limits;
    };
  }

  -- a disk that failed once more in a visit
  raised : (refused : Option (ℕ × Cause)) (failures count : ℕ) (is_down : Bool) → failed_in (record { faults = failures; is_down = is_down }) ≡ true → is_down ≡ false → Rose failures count → failures ≤ count
      → Failed refused failures is_down → Failed refused count is_down
  raised refused failures count true fell up rose later failed = absurd (cc up)
  raised None failures count false fell up rose later failed = let some : 0 < failures = grind (arith, nat_tests) in absurd (omega (arith, some, failed.0))
  raised (Some (b, cause.Down)) failures count false fell up rose later failed = absurd (cc failed.1)
  raised (Some (b, cause.Disk earlier now)) failures count false fell up rose later failed = (omega (arith, later, failed.0), refl)
  raised (Some (b, why)) failures count false fell up rose later failed = failed

  pub failed_again : (s : SessionState) (failures count : ℕ) (is_down : Bool) (old : Seen) → seen_by A before s failures is_down ≡ old → failed_in old.device ≡ true → is_down ≡ false → Rose failures count → failures ≤ count
      → IsVisit A before s failures is_down → IsVisit A before s count is_down
  failed_again s failures count is_down old view fell up rose later is = record {
    was = is.was;
    is = is.is;
    begun = is.begun;
    refused = is.refused;
    made = is.made;
    failed = raised is.refused failures count is_down (ap (λ (v : Seen). failed_in v.device) view ∙ fell) up rose later is.failed;
    limits = is.limits;
  }
