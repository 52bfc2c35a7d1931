-- The records of a log as they are read one by one.
use Rattle.iso_recover.proofs.Words.{◌≡◌, ◌<◌, ◌≤◌, ◌+◌, ◌-◌, ◌^◌, ℕ, List, [], ◌∷◌, ◌++◌, length, take, drop, get_or, map, Some, Err, IsErrOf, IsTrue, refl, sym, ◌∙◌, ap, arith, length-append, length-drop, subst, append-nil, drop-drop, drop-take, get_or-drop, get_or-take, length-take, length_push, take-take, take_at, Geometry, LAST, is_valid, log_place, IsRecord, Written, kind_of, spell, AreBytes, limits, bytes_append, bytes_front, no_bytes, all_push, IsClosed, fault_of, record_window, length-spell, window_front, HasLog, has_log, records-append, take-plus, LogError, Extent, next_place, IsDamaged, IsFirst, IsTaken, StandAt, window_is, OpenError, damaged, log_at, log_refusal, record_bytes, told_first, failed, passed, Front, IsTest, opening, IsFront, BeginsLog, HasRead, IsDamagedBy, read_bytes, BlockVersions, versions_in, HasTaken, part_of, index_more}
use Rattle.iso_log.specs.declared.log_error.LogError.TheVariants as log

-- ---- the errors of a scan

err_is : {T : Type 0} (e : LogError) → IsErrOf {T = T} {E = LogError} (Err e) e
err_is e = refl

pub damaged_by : {T : Type 0} (error : LogError) (g : Geometry) (place rest number : ℕ) (image : List ℕ)
    → ((at cause : ℕ) → IsErrOf {T = T} {E = LogError} (Err error) (log.Damaged at cause) → IsDamaged g place rest number at cause image)
    → IsTest (opening error) → IsDamagedBy g place rest number (opening error) image
damaged_by (log.Damaged at cause) g place rest number image is test =
    let d = is at cause (err_is (log.Damaged at cause)) in
    record { opens = d.opens; fault = d.fault; fails = d.fails; error_is = d.place_is }
damaged_by log.Memory g place rest number image is test = absurd test
damaged_by log.Disk g place rest number image is test = absurd test
damaged_by (log.LogFull need free) g place rest number image is test = absurd test

-- ---- in memory

pub reads_none : (f : Front) (size : ℕ) (start : Extent) (index : List BlockVersions) → IsFront f size → start ≡ record { place = f.log; room = f.geometry.log; used = 0; last = f.base }
    → length index ≡ f.geometry.blocks → ((b : ℕ) → versions_in index b ≡ []) → HasRead f [] start index
reads_none f size start index is begins blocks none =
    let least : 64 ≤ f.geometry.log = (limits f.geometry is.valid).least_log in
    let base : f.base ≤ LAST = is.base in
    let number : f.base ≡ f.base + 0 = omega arith in
    record {
      each = tt;
      values = no_bytes;
      log_is = begins ∙ ap (λ (n : ℕ). record { place = f.log; room = f.geometry.log; used = 0; last = n }) number;
      numbers = omega arith;
      left = omega arith;
      index_is = record { blocks = blocks; each = λ b below. none b };
    }

module _ (f : Front) (told : List Written) (log : Extent) (index : List BlockVersions) (read : HasRead f told log index) (more : Extent) (into : List ℕ) (taken : IsTaken f.geometry log more into) where
  -- the record that was read
  abbrev w : Written
  w = told_first f.geometry into

  abbrev spelled : List ℕ
  spelled = spell 1 (kind_of f.geometry (told_first f.geometry into).mode) (f.base + 1 + length told) (told_first f.geometry into).parts

  last_is : log.last ≡ f.base + length told
  last_is = ap (λ (e : Extent). e.last) read.log_is

  number_is : log.last + 1 ≡ f.base + 1 + length told
  number_is = omega (arith, last_is)

  into_is : into ≡ spelled ++ taken.next.gate ∷ []
  into_is = taken.next.bytes_are ∙ ap (λ (n : ℕ). spell 1 (kind_of f.geometry (told_first f.geometry into).mode) n (told_first f.geometry into).parts ++ taken.next.gate ∷ []) number_is

  size_is : length into ≡ length spelled + 1
  size_is = ap length into_is ∙ length-append spelled (taken.next.gate ∷ [])

  all_is : read_bytes f (told ++ w ∷ []) ≡ read_bytes f told ++ spelled
  all_is = records-append f.geometry (f.base + 1) told (w ∷ []) ∙ ap (λ (l : List ℕ). read_bytes f told ++ l) (append-nil spelled)

  long_is : length (read_bytes f (told ++ w ∷ [])) ≡ length (read_bytes f told) + length spelled
  long_is = ap length all_is ∙ length-append (read_bytes f told) spelled

  pub long_record : 21 ≤ length into
  long_record =
      omega (arith, size_is, length-spell 1 (kind_of f.geometry (told_first f.geometry into).mode) (f.base + 1 + length told) (told_first f.geometry into).parts)

  pub more_is : more ≡ record { place = f.log; room = f.geometry.log; used = length (read_bytes f (told ++ w ∷ [])); last = f.base + length (told ++ w ∷ []) }
  more_is =
      let used : length (read_bytes f told) + (length into - 1) ≡ length (read_bytes f (told ++ w ∷ [])) = omega (arith, long_is, size_is) in
      let last : f.base + length told + 1 ≡ f.base + length (told ++ w ∷ []) = omega (arith, length_push told w) in
      taken.grown ∙ ap (λ (e : Extent). record e { used = e.used + (length into - 1); last = e.last + 1 }) read.log_is
      ∙ (λ i. record { place = f.log; room = f.geometry.log; used = used i; last = last i })

  pub reads_more : (number gate : ℕ) (next : List BlockVersions) → AreBytes into → number ≡ f.base + 1 + length told → gate ≡ f.log + length (read_bytes f told)
      → HasTaken number gate (map part_of (told_first f.geometry into).parts) index next → HasRead f (told ++ w ∷ []) more next
  reads_more number gate next values is there took =
      let below : log.last + 1 ≤ LAST = taken.next.below in
      let inside : more.used < more.room = taken.inside in
      let own : AreBytes spelled = bytes_front spelled (taken.next.gate ∷ []) (subst AreBytes into_is values) in
      let here : HasTaken (f.base + 1 + length told) (f.log + length (read_bytes f told)) (map part_of (told_first f.geometry into).parts) index next =
      subst (λ (n : ℕ). HasTaken n (f.log + length (read_bytes f told)) (map part_of (told_first f.geometry into).parts) index next) is
      (subst (λ (p : ℕ). HasTaken number p (map part_of (told_first f.geometry into).parts) index next) there took) in
      record {
        each = all_push (IsRecord f.geometry) told w read.each taken.next.is_record;
        values = subst AreBytes (sym all_is) (bytes_append (read_bytes f told) spelled read.values own);
        log_is = more_is;
        numbers = omega (arith, below, last_is, length_push told w);
        left = omega (arith, inside, ap (λ (e : Extent). e.used) more_is, ap (λ (e : Extent). e.room) more_is);
        index_is = index_more f.geometry (f.base + 1) f.log f.base told w index next read.index_is (omega arith) here;
      }

-- ---- in the image

pub begins_none : (f : Front) (c : List ℕ) → BeginsLog f [] c
begins_none f c =
    let place : f.log ≡ f.log + 0 = omega arith in
    let number : f.base + 1 ≡ f.base + 1 + 0 = omega arith in
    record {
      bytes = refl;
      refusal_is = λ i. log_refusal f.geometry (place i) (number i) f.geometry.log (log_at f.geometry f.half c);
    }

module _ (f : Front) (told : List Written) (log : Extent) (index : List BlockVersions) (read : HasRead f told log index) (c : List ℕ) (place_is : f.log ≡ log_place f.geometry f.half)
    (begins : BeginsLog f told c) where
  abbrev used : ℕ
  used = length (read_bytes f told)

  abbrev rest : List ℕ
  rest = drop (length (read_bytes f told)) (log_at f.geometry f.half c)

  next_is : next_place log ≡ f.log + length (read_bytes f told)
  next_is = λ i. (read.log_is i).place + (read.log_is i).used

  left_is : log.room - log.used ≡ f.geometry.log - length (read_bytes f told)
  left_is = λ i. (read.log_is i).room - (read.log_is i).used

  last_number : log.last + 1 ≡ f.base + 1 + length told
  last_number = omega (arith, ap (λ (e : Extent). e.last) read.log_is)

  rest_is : drop (length (read_bytes f told)) (log_at f.geometry f.half c) ≡ take (f.geometry.log - length (read_bytes f told)) (drop (f.log + length (read_bytes f told)) c)
  rest_is =
      let far : f.geometry.log ≡ length (read_bytes f told) + (f.geometry.log - length (read_bytes f told)) = omega (arith, read.left) in
      (λ i. drop (length (read_bytes f told)) (take (far i) (drop (sym place_is i) c)))
      ∙ drop-take (length (read_bytes f told)) (f.geometry.log - length (read_bytes f told)) (drop f.log c)
      ∙ ap (take (f.geometry.log - length (read_bytes f told))) (drop-drop (length (read_bytes f told)) f.log c)

  short_rest : length rest ≤ f.geometry.log
  short_rest = omega (arith, ap length rest_is, length-take (f.geometry.log - length (read_bytes f told)) (drop (f.log + length (read_bytes f told)) c))

  -- an open gate is at the front of the rest
  opens_rest : get_or c (next_place log) 0 ≡ 1 → get_or rest 0 0 ≡ 1
  opens_rest opens =
      let there : f.log + length (read_bytes f told) + 0 ≡ f.log + length (read_bytes f told) = omega arith in
      ap (λ (l : List ℕ). get_or l 0 0) rest_is
      ∙ get_or-take (f.geometry.log - length (read_bytes f told)) (drop (f.log + length (read_bytes f told)) c) 0 0 (omega (arith, read.left))
      ∙ get_or-drop (f.log + length (read_bytes f told)) c 0 0 ∙ ap (λ (n : ℕ). get_or c n 0) (there ∙ sym next_is) ∙ opens

  fault_rest : fault_of f.geometry (log.last + 1) (take (log.room - log.used) (drop (next_place log) c)) ≡ fault_of f.geometry (f.base + 1 + length told) rest
  fault_rest = (λ i. fault_of f.geometry (last_number i) (take (left_is i) (drop (next_is i) c))) ∙ ap (fault_of f.geometry (f.base + 1 + length told)) (sym rest_is)

  -- a record that fails a test
  pub refuses_log : (e : OpenError) → IsDamagedBy f.geometry (next_place log) (log.room - log.used) (log.last + 1) e c
      → log_refusal f.geometry f.log (f.base + 1) f.geometry.log (log_at f.geometry f.half c) ≡ Some e
  refuses_log e d =
      begins.refusal_is
      ∙ failed f.geometry (f.log + length (read_bytes f told)) (f.base + 1 + length told) f.geometry.log rest d.fault (opens_rest d.opens) short_rest (sym fault_rest ∙ d.fails)
      ∙ ap Some (sym (d.error_is ∙ ap (λ (n : ℕ). damaged n d.fault) next_is))

  -- the closed gate after the records
  pub reads_all : f.log + f.geometry.log ≤ length c → IsClosed (next_place log) c → HasLog f.log f.geometry.log f.geometry (f.base + 1) told c
  reads_all fits closed =
      has_log f.log f.geometry.log f.geometry (f.base + 1) told c fits read.left begins.bytes (subst (λ (n : ℕ). IsClosed n c) next_is closed)

  -- one record more
  module _ (more : Extent) (into : List ℕ) (taken : IsTaken f.geometry log more into) (stands : StandAt (next_place log) into c) (fits : f.log + f.geometry.log ≤ length c) (valid : IsTrue (is_valid f.geometry)) where
    there : into ≡ take (length into) (drop (f.log + length (read_bytes f told)) c)
    there = stands ∙ ap (λ (n : ℕ). take (length into) (drop n c)) next_is

    some : 21 ≤ length into
    some = long_record f told log index read more into taken

    enough : length (read_bytes f told) + length into ≤ f.geometry.log
    enough =
        let inside : more.used < more.room = taken.inside in
        omega (arith, inside, ap (λ (e : Extent). e.used) taken.grown, ap (λ (e : Extent). e.room) taken.grown, ap (λ (e : Extent). e.used) read.log_is, ap (λ (e : Extent). e.room) read.log_is, some)

    window : record_bytes rest ≡ length into - 1
    window =
        let most : f.geometry.log ≤ 67108864 = (limits f.geometry valid).largest_log in
        let small : length into < 2 ^ 32 = omega (arith, enough, most) in
        let own : record_window into ≡ length into =
        ap record_window (into_is f told log index read more into taken)
        ∙ window_is 1 (kind_of f.geometry (told_first f.geometry into).mode) (f.base + 1 + length told) (told_first f.geometry into).parts (taken.next.gate ∷ []) (omega (arith, small, size_is f told log index read more into taken))
        ∙ sym (size_is f told log index read more into taken) in
        let whole : record_window (drop (f.log + length (read_bytes f told)) c) ≡ length into =
        sym (window_front (drop (f.log + length (read_bytes f told)) c) (length into) (omega (arith, some))) ∙ ap record_window (sym there) ∙ own in
        let cut : record_window rest ≡ length into =
        ap record_window rest_is ∙ window_front (drop (f.log + length (read_bytes f told)) c) (f.geometry.log - length (read_bytes f told)) (omega (arith, enough, some)) ∙ whole in
        omega (arith, cut)

    pub begins_more : IsFirst f.geometry (next_place log) (log.room - log.used) (log.last + 1) c → BeginsLog f (told ++ told_first f.geometry into ∷ []) c
    begins_more first =
        let S : List ℕ = spell 1 (kind_of f.geometry (told_first f.geometry into).mode) (f.base + 1 + length told) (told_first f.geometry into).parts in
        let size = size_is f told log index read more into taken in
        let long = long_is f told log index read more into taken in
        let second : take (length S) (drop (length (read_bytes f told)) (drop f.log c)) ≡ S =
        ap (take (length S)) (drop-drop (length (read_bytes f told)) f.log c)
        ∙ sym (take-take (length S) (length into) (drop (f.log + length (read_bytes f told)) c) (omega (arith, size)))
        ∙ ap (take (length S)) (sym there ∙ into_is f told log index read more into taken) ∙ take_at S (taken.next.gate ∷ []) (length S) refl in
        let number : f.base + 1 + length told + 1 ≡ f.base + 1 + length (told ++ told_first f.geometry into ∷ []) = omega (arith, length_push told (told_first f.geometry into)) in
        let far : f.log + length (read_bytes f told) + record_bytes rest ≡ f.log + length (read_bytes f (told ++ told_first f.geometry into ∷ [])) = omega (arith, window, size, long) in
        let count : length (read_bytes f told) + record_bytes rest ≡ length (read_bytes f (told ++ told_first f.geometry into ∷ [])) = omega (arith, window, size, long) in
        let behind : drop (record_bytes rest) rest ≡ drop (length (read_bytes f (told ++ told_first f.geometry into ∷ []))) (log_at f.geometry f.half c) =
        drop-drop (record_bytes rest) (length (read_bytes f told)) (log_at f.geometry f.half c) ∙ ap (λ (n : ℕ). drop n (log_at f.geometry f.half c)) count in
        record {
          bytes = ap (λ (n : ℕ). take n (drop f.log c)) long
              ∙ take-plus (length (read_bytes f told)) (length S) (drop f.log c) (omega (arith, length-drop f.log c, enough, size, fits))
              ∙ (λ i. begins.bytes i ++ second i) ∙ sym (all_is f told log index read more into taken);
          refusal_is = begins.refusal_is
              ∙ passed f.geometry (f.log + length (read_bytes f told)) (f.base + 1 + length told) f.geometry.log rest (opens_rest first.opens) short_rest (sym fault_rest ∙ first.passes)
              ∙ (λ i. log_refusal f.geometry (far i) (number i) f.geometry.log (behind i));
        }
