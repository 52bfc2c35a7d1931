-- A log that is read record by record: what holds before each.
use Rattle.iso_recover.proofs.{Words.{◌≡◌, ◌<◌, ◌≤◌, ◌+◌, ◌-◌, ◌^◌, ℕ, List, [], ◌∷◌, ◌++◌, length, map, Some, Result, Ok, Err, IsErrOf, refl, sym, ◌∙◌, ap, arith, subst, ForSome, LAST, image_size, log_place, Written, AreBytes, limits, Rose, DiskState, IsLawful, WritesNothing, length-contents, joined_unwritten, starts_unwritten, IsClosed, HasLog, MayFollow, log_inside, Extent, next_place, IsFirst, IsTaken, StandAt, OpenError, Disk, Memory, log_at, log_refusal, told_first, Front, BlamesDisk, IsFront, BeginsLog, HasRead, IsDamagedBy, read_bytes, IsIndexOf, BlockVersions, versions_in, HasTaken, MayTake, part_of, may_take}, Scans.{begins_more, begins_none, long_record, more_is, reads_all, reads_more, reads_none, refuses_log}}

-- ---- causes

same_error : {T : Type 0} → OpenError → Result T OpenError → OpenError
same_error other (Ok x) = other
same_error other (Err e) = e

pub is_error : {T : Type 0} (e x : OpenError) → IsErrOf {T = T} {E = OpenError} (Err e) x → e ≡ x
unfolding same_error
is_error e x is = ap (same_error e) is

-- a run that blamed nobody, and a call that answers Ok
pub blames_none : {T U : Type 0} (before mid now : ℕ) (x : T) (y : U) → mid ≡ before → BlamesDisk {T = T} mid now (Ok x) → BlamesDisk {T = U} before now (Ok y)
blames_none before mid now x y same b =
    let passed : now ≡ mid = b.passed in
    record { later = omega (arith, same, passed); failed = λ is. absurd cc; passed = passed ∙ same; other = tt }

-- and one that fails
pub blames_call : {T U : Type 0} (before mid now : ℕ) (e : OpenError) → mid ≡ before → BlamesDisk {T = T} mid now (Err e) → BlamesDisk {T = U} before now (Err e)
blames_call before mid now e same b =
    let later : mid ≤ now = b.later in
    record {
      later = omega (arith, same, later);
      failed = λ is. subst (λ (n : ℕ). Rose n now) same (b.failed (ap Err (is_error e Disk is)));
      passed = tt;
      other = λ no_fault. b.other no_fault ∙ same;
    }

-- a run that blamed nobody, and want of memory
pub blames_memory : {U : Type 0} (before now : ℕ) → now ≡ before → BlamesDisk {T = U} before now (Err Memory)
blames_memory before now same = record { later = omega (arith, same); failed = λ is. absurd cc; passed = tt; other = λ no_fault. same }

-- ---- a log that lies in the disk

pub log_fits : (f : Front) (size : ℕ) → IsFront f size → f.log + f.geometry.log ≤ size
log_fits f size is =
    let place : f.log ≡ log_place f.geometry f.half = is.log in
    let whole : size ≡ image_size f.geometry = is.size_is in
    omega (arith, place, whole, log_inside f.geometry f.half is.half)

pub log_small : (f : Front) (size : ℕ) → IsFront f size → f.log + f.geometry.log ≤ 268435584
log_small f size is =
    let whole : size ≡ image_size f.geometry = is.size_is in
    omega (arith, whole, log_fits f size is, (limits f.geometry is.valid).image)

-- ---- before each record

pub record IsReading (f : Front) (old now : DiskState) (log : Extent) (index : List BlockVersions) (ahead : List ℕ) : Type 0 where
  pub told : List Written
  pub read : HasRead f told log index
  pub begins : ForSome old.contents (BeginsLog f told)
  pub within : log.used + length ahead ≤ log.room
  pub stands : ForSome old.contents (StandAt (next_place log) ahead)
  pub faults : now.faults ≡ old.faults
  pub unwritten : WritesNothing old now

pub starts_reading : (f : Front) (d : DiskState) → IsLawful d → IsFront f d.size → (start : Extent) (index : List BlockVersions) (ahead : List ℕ)
    → start ≡ record { place = f.log; room = f.geometry.log; used = 0; last = f.base } → length index ≡ f.geometry.blocks → ((b : ℕ) → versions_in index b ≡ [])
    → ahead ≡ [] → IsReading f d d start index ahead
starts_reading f d laws is start index ahead begins blocks none empty = record {
  told = [];
  read = reads_none f d.size start index is begins blocks none;
  begins = λ c told. begins_none f c;
  within = omega (arith, ap (λ (e : Extent). e.used) begins, ap (λ (l : List ℕ). length l) empty);
  stands = λ c told. rw empty refl;
  faults = refl;
  unwritten = starts_unwritten laws;
}

module _ {f : Front} {old now : DiskState} {log : Extent} {index : List BlockVersions} {ahead : List ℕ} (laws : IsLawful old) (is : IsFront f old.size) (r : IsReading f old now log index ahead) where
  used_is : log.used ≡ length (read_bytes f r.told)
  used_is = ap (λ (e : Extent). e.used) r.read.log_is

  place_is : log.place ≡ f.log
  place_is = ap (λ (e : Extent). e.place) r.read.log_is

  room_is : log.room ≡ f.geometry.log
  room_is = ap (λ (e : Extent). e.room) r.read.log_is

  last_is : log.last ≡ f.base + length r.told
  last_is = ap (λ (e : Extent). e.last) r.read.log_is

  pub lies : log.place + log.room ≤ now.size
  lies =
      let size : now.size ≡ old.size = r.unwritten.moments.same_size in
      omega (arith, size, place_is, room_is, log_fits f old.size is)

  pub some_left : log.used < log.room
  some_left = omega (arith, used_is, room_is, r.read.left)

  pub below : log.last ≤ LAST
  below = omega (arith, last_is, r.read.numbers)

  pub gate_fits : (used : ℕ) → used ≡ log.used → f.log + used < 2 ^ 64
  gate_fits used same = omega (arith, same, some_left, room_is, log_small f old.size is)

  pub stands_now : ForSome now.contents (StandAt (next_place log) ahead)
  stands_now c told = r.stands c (sym r.unwritten.same_contents ∙ told)

  fits : (c : List ℕ) → old.contents ≡ Some c → f.log + f.geometry.log ≤ length c
  fits c told = omega (arith, length-contents laws c told, log_fits f old.size is)

  -- the log ends
  pub reads_end : (new : Extent) → new ≡ log → ForSome now.contents (IsClosed (next_place log))
      → (told : List Written) × HasRead f told new index × ForSome old.contents (HasLog f.log f.geometry.log f.geometry (f.base + 1) told)
  reads_end new same closed = (
    r.told,
    subst (λ (e : Extent). HasRead f r.told e index) (sym same) r.read,
    λ c told. reads_all f r.told log index r.read c is.log (r.begins c told) (fits c told) (closed c (r.unwritten.same_contents ∙ told)),
  )

  -- a record fails a test
  pub refuses_now : (e : OpenError) → ForSome now.contents (IsDamagedBy f.geometry (next_place log) (log.room - log.used) (log.last + 1) e)
      → ForSome old.contents (λ c. log_refusal f.geometry f.log (f.base + 1) f.geometry.log (log_at f.geometry f.half c) ≡ Some e)
  refuses_now e fails c told = refuses_log f r.told log index r.read c is.log (r.begins c told) e (fails c (r.unwritten.same_contents ∙ told))

  -- one record more
  module _ (more : Extent) (into : List ℕ) (taken : IsTaken f.geometry log more into) where
    may_follow : MayFollow f.geometry (record { at = f.half; generation = f.generation; base = f.base; array = []; told = r.told }) (told_first f.geometry into ∷ [])
    may_follow =
        let next : log.last + 1 ≤ LAST = taken.next.below in
        let inside : more.used < more.room = taken.inside in
        let all = more_is f r.told log index r.read more into taken in
        record {
          each = (taken.next.is_record, tt);
          numbers = omega (arith, last_is, next);
          room = omega (arith, inside, ap (λ (e : Extent). e.used) all, ap (λ (e : Extent). e.room) all);
        }

    pub may : (number gate : ℕ) → number ≡ more.last → gate ≡ f.log + log.used → MayTake number gate (map part_of (told_first f.geometry into).parts) index
    may number gate counted there =
        let last : more.last ≡ log.last + 1 = ap (λ (e : Extent). e.last) taken.grown in
        let same : f.base + length r.told + 1 ≡ number = omega (arith, counted, last, last_is) in
        let log_there : f.log ≡ log_place f.geometry f.half = is.log in
        let place : log_place f.geometry f.half + length (read_bytes f r.told) ≡ gate = omega (arith, there, used_is, log_there) in
        subst (λ (n : ℕ). MayTake n gate (map part_of (told_first f.geometry into).parts) index) same
        (subst (λ (p : ℕ). MayTake (f.base + length r.told + 1) p (map part_of (told_first f.geometry into).parts) index) place
        (may_take f.geometry (record { at = f.half; generation = f.generation; base = f.base; array = []; told = r.told }) f.base (told_first f.geometry into) index is.valid is.half r.read.each may_follow
        (subst (λ (p : ℕ). IsIndexOf f.geometry (f.base + 1) p f.base r.told index) log_there r.read.index_is)))

    pub goes_on_reading : (new : DiskState) → IsLawful now → (number gate : ℕ) (next : List BlockVersions) (left : List ℕ) → AreBytes into → number ≡ more.last → gate ≡ f.log + log.used
        → HasTaken number gate (map part_of (told_first f.geometry into).parts) index next
        → ForSome now.contents (StandAt (next_place log) into) → ForSome now.contents (IsFirst f.geometry (next_place log) (log.room - log.used) (log.last + 1))
        → more.used + length left ≤ more.room → ForSome now.contents (StandAt (next_place more) left) → new.faults ≡ now.faults → WritesNothing now new
        → IsReading f old new more next left
    goes_on_reading new later number gate next left values counted there took stands first within behind faults unwritten =
        let last : more.last ≡ log.last + 1 = ap (λ (e : Extent). e.last) taken.grown in
        let number_is : number ≡ f.base + 1 + length r.told = omega (arith, counted, last, last_is) in
        let gate_is : gate ≡ f.log + length (read_bytes f r.told) = omega (arith, there, used_is) in
        record {
          told = r.told ++ told_first f.geometry into ∷ [];
          read = reads_more f r.told log index r.read more into taken number gate next values number_is gate_is took;
          begins = λ c told.
              let told_now = r.unwritten.same_contents ∙ told in
              begins_more f r.told log index r.read c is.log (r.begins c told) more into taken (stands c told_now) (fits c told) is.valid (first c told_now);
          within = within;
          stands = λ c told. behind c (r.unwritten.same_contents ∙ told);
          faults = faults ∙ r.faults;
          unwritten = joined_unwritten later r.unwritten unwritten;
        }

    -- the log has grown
    pub grows : log.used + 1 ≤ more.used
    grows =
        let used : more.used ≡ log.used + (length into - 1) = ap (λ (e : Extent). e.used) taken.grown in
        omega (arith, used, long_record f r.told log index r.read more into taken)
