-- The record at a gate, as it is found in bytes that were read.
use Rattle.iso_log.proofs.{Words.{◌≡◌, ◌<◌, ◌≤◌, ◌+◌, ◌-◌, ◌^◌, ℕ, List, [], ◌∷◌, Some, Result, Ok, Err, IsErrOf, length, take, drop, get_or, sym, ◌∙◌, ap, arith, length-append, length-drop, get_or-take, get_or-drop, length-take-le, take-take, nil_from_length, Geometry, kind_of, spell, FormatError, Short, offset_of, test_number, BeginsWith, fault_of, record_window, recorded, window_front, fault_front, short_head, short_body, OpenError, damaged, told_first, kind_again, form_1, LogError, LogFull, Disk, Memory, Damaged, Extent, next_place, IsDamaged, IsFound, IsNextRecord, IsTaken, IsTestBefore, StandAt}, Counts.{spell_gate, window_is}, Offsets.{fault_below, test_among}}
use Rattle.iso_image.specs.declared.open_error.OpenError.TheVariants as refused

-- ---- bytes that stand in an image

module _ (place rest : ℕ) (b c : List ℕ) (stands : StandAt place b c) (within : length b ≤ rest) where
  -- as the front of the rest of the log
  front_is : b ≡ take (length b) (take rest (drop place c))
  front_is = stands ∙ sym (take-take (length b) rest (drop place c) within)

  pub first_is : 0 < length b → get_or c place 0 ≡ get_or b 0 0
  first_is some =
      let here : get_or c place 0 ≡ get_or (drop place c) 0 0 = ap (λ (n : ℕ). get_or c n 0) (omega arith) ∙ sym (get_or-drop place c 0 0) in
      here ∙ sym (get_or-take (length b) (drop place c) 0 0 some) ∙ sym (ap (λ (l : List ℕ). get_or l 0 0) stands)

  pub window_same : 12 ≤ length b → record_window b ≡ record_window (take rest (drop place c))
  window_same long = ap record_window front_is ∙ window_front (take rest (drop place c)) (length b) long

  -- the front of these bytes, which is the front of the rest of the log
  cut_is : (n : ℕ) → n ≤ length b → take n b ≡ take n (take rest (drop place c))
  cut_is n le = ap (take n) front_is ∙ take-take n (length b) (take rest (drop place c)) le

  -- what the bytes of a record say, the rest of the log says
  pub says_same : (g : Geometry) (number n : ℕ) → place + rest ≤ length c → n ≤ length b → 12 ≤ length b → n ≡ record_window b → fault_of g number (take n b) ≡ fault_of g number (take rest (drop place c))
  says_same g number n fits le long is =
      let size : length (take rest (drop place c)) ≡ rest = length-take-le rest (drop place c) (omega (arith, length-drop place c)) in
      let window = window_same long in
      ap (fault_of g number) (cut_is n le) ∙ fault_front g number (take rest (drop place c)) n (omega (arith, window, is)) (omega (arith, size))

-- ---- how a test that fails is answered

as_refused : LogError → OpenError
as_refused (Damaged at cause) = refused.Damaged at cause
as_refused (LogFull need free) = refused.NotIsotope
as_refused Disk = refused.NotIsotope
as_refused Memory = refused.NotIsotope

error_of : {T : Type 0} → LogError → Result T LogError → LogError
error_of other (Ok x) = other
error_of other (Err e) = e

error_is : {T : Type 0} (e x : LogError) → IsErrOf {T = T} {E = LogError} (Err e) x → e ≡ x
unfolding error_of
error_is e x same = ap (error_of e) same

pub place_is : {T : Type 0} (place : ℕ) (fault : FormatError) (e : LogError) → e ≡ Damaged (place + offset_of fault) (test_number fault) → (at cause : ℕ) → IsErrOf {T = T} {E = LogError} (Err e) (Damaged at cause)
    → refused.Damaged at cause ≡ damaged place fault
unfolding as_refused
place_is {T = T} place fault e is at cause same =
    sym (ap as_refused (sym is ∙ error_is e (Damaged at cause) same))

-- it names a place before one that the test's field is before
pub test_before : {T : Type 0} (place end : ℕ) (fault : FormatError) (e : LogError) → e ≡ Damaged (place + offset_of fault) (test_number fault) → place + offset_of fault < end
    → (at cause : ℕ) → IsErrOf {T = T} {E = LogError} (Err e) (Damaged at cause) → IsTestBefore end at cause
test_before {T = T} place end fault e is before at cause same =
    let said : refused.Damaged at cause ≡ refused.Damaged (place + offset_of fault) (test_number fault) = place_is {T = T} place fault e is at cause same in
    let at_is : at ≡ place + offset_of fault = cc said in
    let cause_is : cause ≡ test_number fault = cc said in
    record { inside = omega (arith, at_is, before); first = omega (arith, cause_is, (test_among fault).0); last = omega (arith, cause_is, (test_among fault).1) }

-- ---- the record

pub next_record : (g : Geometry) (number : ℕ) (bytes : List ℕ) → BeginsWith g number (recorded bytes) bytes → get_or bytes 0 0 ≡ 1 → length bytes ≡ record_window bytes → length bytes < 2 ^ 32
    → IsNextRecord g number bytes
next_record g number bytes b opens size small =
    let kind = (recorded bytes).kind in
    let parts = (recorded bytes).parts in
    let gate : b.gate ≡ 1 = sym (ap (λ (l : List ℕ). get_or l 0 0) b.spelling ∙ spell_gate b.gate kind number parts (b.next ∷ b.rest)) ∙ opens in
    let kinds : kind ≡ kind_of g (told_first g bytes).mode = sym (kind_again g kind b.kind) in
    let total = ap length b.spelling ∙ length-append (spell b.gate kind number parts) (b.next ∷ b.rest) in
    let window = ap record_window b.spelling ∙ window_is b.gate kind number parts (b.next ∷ b.rest) (omega (arith, total, small)) in
    let none : b.rest ≡ [] = nil_from_length b.rest (omega (arith, total, window, size)) in
    grind (arith, form_1)

-- ---- bytes that were read further

module _ (b more : List ℕ) (front : take (length b) more ≡ b) (long : 20 ≤ length b) where
  pub gate_later : get_or b 0 0 ≡ 1 → get_or more 0 0 ≡ 1
  gate_later opens = sym (get_or-take (length b) more 0 0 (omega (arith, long))) ∙ ap (λ (l : List ℕ). get_or l 0 0) front ∙ opens

  pub window_later : record_window b ≡ record_window more
  window_later = sym (ap record_window front) ∙ window_front more (length b) (omega (arith, long))

-- they are as many as the record asks for
module _ (bytes : List ℕ) (size : ℕ) (is : size ≡ record_window bytes) (enough : size ≤ length bytes) where
  size_is : length (take size bytes) ≡ size
  size_is = length-take-le size bytes enough

  window_cut : record_window (take size bytes) ≡ size
  window_cut = window_front bytes size (omega arith) ∙ sym is

  -- a test that they fail names one of them
  pub fault_inside : (g : Geometry) (number : ℕ) (fault : FormatError) → fault_of g number (take size bytes) ≡ Some fault → offset_of fault < size
  fault_inside g number fault fails = omega (arith, fault_below g number (take size bytes) fault (omega (arith, size_is, window_cut)) fails, size_is)

  pub found_record : (g : Geometry) (number : ℕ) → get_or bytes 0 0 ≡ 1 → size < 2 ^ 32 → BeginsWith g number (recorded (take size bytes)) (take size bytes) → IsNextRecord g number (take size bytes)
  found_record g number opens small begins =
      next_record g number (take size bytes) begins (get_or-take size bytes 0 0 (omega arith) ∙ opens) (omega (arith, size_is, window_cut)) (omega (arith, size_is, small))

-- where the log ends before the record, or before its head
module _ (place rest : ℕ) (b c : List ℕ) (stands : StandAt place b c) (within : length b ≤ rest) (fits : place + rest ≤ length c) where
  rest_long : length (take rest (drop place c)) ≡ rest
  rest_long = length-take-le rest (drop place c) (omega (arith, fits, length-drop place c))

  pub no_head : (g : Geometry) (number : ℕ) → rest < 20 → fault_of g number (take rest (drop place c)) ≡ Some (Short 0)
  no_head g number short = short_head g number (take rest (drop place c)) (omega (arith, rest_long, short))

  pub no_body : (g : Geometry) (number : ℕ) → 20 ≤ length b → rest < record_window b → fault_of g number (take rest (drop place c)) ≡ Some (Short 8)
  no_body g number long short = grind (arith, window_same, short_body, rest_long)

-- a record that was found has one byte at least
pub found_some : (g : Geometry) (number size : ℕ) (bytes : List ℕ) → IsFound g number bytes size → 1 ≤ size
found_some g number size bytes f = grind arith

-- the log has passed it
pub taken_is : (g : Geometry) (a log : Extent) → a ≡ log → (ahead : List ℕ) (size : ℕ) → log.used + length ahead ≤ log.room → IsFound g (log.last + 1) ahead size
    → IsTaken g log (record a { used = a.used + (size - 1); last = a.last + 1 }) (take size ahead)
taken_is g a log same ahead size room f =
    let count : length (take size ahead) ≡ size = length-take-le size ahead f.within in
    grind (arith, found_some)

-- ---- the record of a log

module _ (a log : Extent) (same : a ≡ log) (n : ℕ) (used : n ≡ a.used) where
  pub damaged_here : (g : Geometry) (at cause : ℕ) (c : List ℕ) → IsDamaged g (a.place + n) (a.room - a.used) (a.last + 1) at cause c → IsDamaged g (next_place log) (log.room - log.used) (log.last + 1) at cause c
  damaged_here g at cause c is = grind arith

  pub stands_here : (bytes c : List ℕ) → StandAt (a.place + n) bytes c → StandAt (next_place log) bytes c
  stands_here bytes c stands = grind arith
