-- A log whose records pass each test is the spelling of what it tells, and what is spelled passes them and is told.
use Rattle.iso_image.proofs.RefusalWords.{◌≡◌, ◌≢◌, ◌∙◌, sym, refl, ap, inl, inr, ℕ, zero, suc, ◌+◌, ◌^◌, ◌<◌, ◌≤◌, ◌==◌, ◌||◌, ◌&&◌, Bool, true, false, cond, List, Option, Some, None, IsTrue, length, get_or, drop, option_map, append_assoc, subst, arith, AllByRecursion, w32, drop-cons, eqb-true, eqb-false, eq-eqb, ne_eqb, or_cases, drop_at, length-append, length-drop, from_be_bytes-to_be_bytes_4, Geometry, Mode, Serial, Snapshot, Run, LAST, or_else, is_valid, same_mode, IsLog, IsRecord, Written, body_length, kind_of, records, spell, AreBytes, number_at, BeginsWith, Recorded, fault_of, is_kind, recorded, neither, body_bound, length-spell, bytes_drop, read_is, record_again, damaged, log_refusal, mode_of_kind, record_bytes, told_by, told_first}
use Rattle.std.proofs.Common.{[], ◌∷◌, ◌++◌}

pub none_mapped : {X Y : Type 0} (f : X → Y) (o : Option X) → option_map f o ≡ None → o ≡ None
none_mapped f None e = refl
none_mapped f (Some x) e = absurd cc

-- ---- the modes of records

kind_of-mode : (m : Mode) (kind : ℕ) → kind ≡ 1 → cond (same_mode (mode_of_kind m kind) m) 1 2 ≡ kind
kind_of-mode Serial kind is = rw is refl
kind_of-mode Snapshot kind is = rw is refl

kind_of-other : (m : Mode) (kind : ℕ) → kind ≡ 2 → cond (same_mode (mode_of_kind m kind) m) 1 2 ≡ kind
kind_of-other Serial kind is = rw is refl
kind_of-other Snapshot kind is = rw is refl

pub kind_again : (g : Geometry) (kind : ℕ) → IsTrue (is_kind g kind) → kind_of g (mode_of_kind g.mode kind) ≡ kind
kind_again g kind known = grind (arith, kind_of-mode, kind_of-other)

own_mode : (m : Mode) (kind : ℕ) → kind ≡ 1 → mode_of_kind m kind ≡ m
own_mode Serial kind is = rw is refl
own_mode Snapshot kind is = rw is refl

pub form_1 : (g : Geometry) (kind : ℕ) → IsTrue (is_kind g kind) → g.form ≡ 1 → mode_of_kind g.mode kind ≡ g.mode
form_1 g kind known form = grind (arith, own_mode)

mode_again : (m mode : Mode) → mode_of_kind m (cond (same_mode mode m) 1 2) ≡ mode
mode_again m mode = grind arith

-- a record of either mode has a kind, in form 1 of the image's mode alone
kind_known : (g : Geometry) (w : Written) → IsTrue ((g.form == 1) || (g.form == 2)) → IsRecord g w → IsTrue (is_kind g (kind_of g w.mode))
kind_known g w form is =
    elim (or_cases (g.form == 1) (g.form == 2) form) [
      | inl first ↦ rw (is.mode (eqb-true g.form 1 first)) (own g.mode g.form)
      | inr second ↦ rw second (either (same_mode w.mode g.mode))
    ]
  where
    own : (m : Mode) (form : ℕ) → IsTrue ((cond (same_mode m m) 1 2 == 1) || ((cond (same_mode m m) 1 2 == 2) && (form == 2)))
    own Serial form = refl
    own Snapshot form = refl

    either : (same : Bool) → IsTrue ((cond same 1 2 == 1) || ((cond same 1 2 == 2) && true))
    either same = grind arith

-- ---- a record and what is after it

behind : (gate kind n : ℕ) (parts : List Run) (rest : List ℕ) → body_length parts < 2 ^ 30 →
    drop (record_bytes (spell gate kind n parts ++ rest)) (spell gate kind n parts ++ rest) ≡ rest
unfolding spell
behind gate kind n parts rest small =
    let body : number_at w32 8 (spell gate kind n parts ++ rest) ≡ body_length parts = from_be_bytes-to_be_bytes_4 (body_length parts) (omega arith) in
    drop_at (spell gate kind n parts) rest (record_bytes (spell gate kind n parts ++ rest)) (omega (arith, length-spell gate kind n parts, body))

first_gate : (gate kind n : ℕ) (parts : List Run) (rest : List ℕ) → get_or (spell gate kind n parts ++ rest) 0 0 ≡ gate
unfolding spell
first_gate gate kind n parts rest = refl

-- the log is one of the records that are told, and they may be records
pub record Tells (g : Geometry) (n : ℕ) (told : List Written) (bytes : List ℕ) : Type 0 where
  pub is : IsLog g n told bytes
  pub each : AllByRecursion (IsRecord g) told
  pub last : n ≤ LAST + 1 → n + length told ≤ LAST + 1

-- ---- a log whose records pass each test

closed_log : (g : Geometry) (n : ℕ) (log : List ℕ) → 0 < length log → (get_or log 0 0 == 1) ≡ false → Tells g n [] log
closed_log g n log some shut = record {
  is = (get_or log 0 0, drop 1 log, eqb-false (get_or log 0 0) 1 shut, drop-cons log 0 0 some);
  each = tt;
  last = λ (first : n ≤ LAST + 1). omega arith;
}

-- the record at the front of a log
record IsFront (g : Geometry) (n : ℕ) (w : Written) (log : List ℕ) : Type 0 where
  spelling : log ≡ spell 1 (kind_of g w.mode) n w.parts ++ drop (record_bytes log) log
  more : 0 < length (drop (record_bytes log) log)
  is : IsRecord g w
  last : n ≤ LAST

front : (g : Geometry) (n : ℕ) (log : List ℕ) → IsTrue (is_valid g) → AreBytes log → (get_or log 0 0 == 1) ≡ true → fault_of g n log ≡ None → IsFront g n (told_first g log) log
front g n log valid fits opens free =
    let b = read_is g n log fits free in
    let parts = (recorded log).parts in
    let kind = (recorded log).kind in
    let small : body_length parts < 2 ^ 30 = body_bound parts (g, valid, b.runs) in
    let gate : b.gate ≡ 1 = sym (ap (λ (l : List ℕ). get_or l 0 0) b.spelling ∙ first_gate b.gate kind n parts (b.next ∷ b.rest)) ∙ eqb-true (get_or log 0 0) 1 opens in
    let rest : drop (record_bytes log) log ≡ b.next ∷ b.rest = ap (λ (l : List ℕ). drop (record_bytes l) l) b.spelling ∙ behind b.gate kind n parts (b.next ∷ b.rest) small in
    let kinds : kind ≡ kind_of g (told_first g log).mode = sym (kind_again g kind b.kind) in
    let follows : b.next ∷ b.rest ≡ drop (record_bytes log) log = sym rest in
    record {
      spelling = b.spelling ∙ (λ i. spell (gate i) (kinds i) n parts ++ follows i);
      more = rw rest (omega arith);
      is = record { some = b.some; runs = b.runs; mode = form_1 g kind b.kind };
      last = b.last;
    }

joined : (g : Geometry) (n : ℕ) (w : Written) (told : List Written) (log : List ℕ) → IsFront g n w log → Tells g (n + 1) told (drop (record_bytes log) log) → Tells g n (w ∷ told) log
joined g n w told log f t =
    let (gate, rest, shut, spelled) = t.is in
    let first = spell 1 (kind_of g w.mode) n w.parts in
    record {
      is = (gate, rest, shut, f.spelling ∙ ap (λ (l : List ℕ). first ++ l) spelled ∙ sym (append_assoc first (records g (n + 1) told) (gate ∷ rest)));
      each = (f.is, t.each);
      last = λ (below : n ≤ LAST + 1). omega (arith, f.last, t.last (omega (arith, f.last)));
    }

-- what the log tells from a gate on, by what the rest of it tells
by_gate : (g : Geometry) (place n most : ℕ) (log : List ℕ) (open_gate : Bool) → IsTrue (is_valid g) → AreBytes log → 0 < length log → (get_or log 0 0 == 1) ≡ open_gate
    → (0 < length (drop (record_bytes log) log) → log_refusal g (place + record_bytes log) (n + 1) most (drop (record_bytes log) log) ≡ None
    → Tells g (n + 1) (told_by g most (drop (record_bytes log) log)) (drop (record_bytes log) log))
    → cond open_gate (or_else (option_map (damaged place) (fault_of g n log)) (log_refusal g (place + record_bytes log) (n + 1) most (drop (record_bytes log) log))) None ≡ None
    → Tells g n (cond open_gate (told_first g log ∷ told_by g most (drop (record_bytes log) log)) []) log
by_gate g place n most log false valid fits some gate rest e = closed_log g n log some gate
by_gate g place n most log true valid fits some gate rest e =
    let passed = neither (option_map (damaged place) (fault_of g n log)) (log_refusal g (place + record_bytes log) (n + 1) most (drop (record_bytes log) log)) e in
    let f = front g n log valid fits gate (none_mapped (damaged place) (fault_of g n log) passed.0) in
    joined g n (told_first g log) (told_by g most (drop (record_bytes log) log)) log f (rest f.more passed.1)

-- a log whose records pass each test is one of the records that it tells
pub unrefused_log : (g : Geometry) (place n most : ℕ) (log : List ℕ) → IsTrue (is_valid g) → AreBytes log → 0 < length log → length log ≤ most
    → log_refusal g place n most log ≡ None → Tells g n (told_by g most log) log
unrefused_log g place n zero log valid fits some short e = absurd (omega arith)
unrefused_log g place n (suc most) log valid fits some short e =
    let less : length (drop (record_bytes log) log) ≤ most = omega (arith, length-drop (record_bytes log) log) in
    by_gate g place n most log (get_or log 0 0 == 1) valid fits some refl
    (λ more free. unrefused_log g (place + record_bytes log) (n + 1) most (drop (record_bytes log) log) valid (bytes_drop (record_bytes log) log fits) more less free) e

-- ---- a log of records

-- no test fails, and the records are told
pub record IsTold (g : Geometry) (place n most : ℕ) (told : List Written) (log : List ℕ) : Type 0 where
  pub free : log_refusal g place n most log ≡ None
  pub tells : told_by g most log ≡ told

one_told : (g : Geometry) (place n most : ℕ) (w : Written) (told : List Written) (rest : List ℕ) → IsTrue (is_valid g) → IsTrue ((g.form == 1) || (g.form == 2))
    → IsRecord g w → n ≤ LAST → 0 < length rest
    → IsTold g (place + record_bytes (spell 1 (kind_of g w.mode) n w.parts ++ rest)) (n + 1) most told rest
    → IsTold g place n (suc most) (w ∷ told) (spell 1 (kind_of g w.mode) n w.parts ++ rest)
one_told g place n most w told rest valid form is last some t =
    let kind = kind_of g w.mode in
    let log = spell 1 kind n w.parts ++ rest in
    let said : Recorded = record { number = n; kind = kind; parts = w.parts } in
    let begins : BeginsWith g n said log = record {
      number = refl;
      last = last;
      kind = kind_known g w form is;
      some = is.some;
      runs = is.runs;
      gate = 1;
      next = get_or rest 0 0;
      rest = drop 1 rest;
      spelling = ap (λ (l : List ℕ). spell 1 kind n w.parts ++ l) (drop-cons rest 0 0 some);
    } in
    let again = record_again g n said log valid begins in
    let opens : (get_or log 0 0 == 1) ≡ true = eq-eqb (get_or log 0 0) 1 (first_gate 1 kind n w.parts rest) in
    let more : drop (record_bytes log) log ≡ rest = behind 1 kind n w.parts rest (body_bound w.parts (g, valid, is.runs)) in
    let first : told_first g log ≡ w = λ i. record { mode = (ap (λ (r : Recorded). mode_of_kind g.mode r.kind) again.told ∙ mode_again g.mode w.mode) i; parts = (again.told i).parts } in
    record {
      free = (λ i. cond (opens i) (or_else (option_map (damaged place) (again.free i)) (log_refusal g (place + record_bytes log) (n + 1) most (more i))) None) ∙ t.free;
      tells = (λ i. cond (opens i) (first i ∷ told_by g most (more i)) []) ∙ ap (λ (l : List Written). w ∷ l) t.tells;
    }

some_rest : (front : List ℕ) (gate : ℕ) (rest : List ℕ) → 0 < length (front ++ gate ∷ rest)
some_rest front gate rest = omega (arith, length-append front (gate ∷ rest))

-- a log of records and a closed gate passes each test, and they are told
pub log_again : (g : Geometry) (place n most : ℕ) (told : List Written) (gate : ℕ) (rest : List ℕ) → IsTrue (is_valid g) → IsTrue ((g.form == 1) || (g.form == 2))
    → gate ≢ 1 → AllByRecursion (IsRecord g) told → n + length told ≤ LAST + 1 → length (records g n told ++ gate ∷ rest) ≤ most
    → IsTold g place n most told (records g n told ++ gate ∷ rest)
log_again g place n zero told gate rest valid form shut each last short = absurd (omega (arith, some_rest (records g n told) gate rest))
log_again g place n (suc most) [] gate rest valid form shut each last short = record { free = rw (ne_eqb gate 1 shut) refl; tells = rw (ne_eqb gate 1 shut) refl }
log_again g place n (suc most) (w ∷ told) gate rest valid form shut each last short =
    let first = spell 1 (kind_of g w.mode) n w.parts in
    let more = records g (n + 1) told ++ gate ∷ rest in
    let whole : (first ++ records g (n + 1) told) ++ gate ∷ rest ≡ first ++ more = append_assoc first (records g (n + 1) told) (gate ∷ rest) in
    let less : length more ≤ most = omega (arith, ap length whole, length-append first more, length-spell 1 (kind_of g w.mode) n w.parts) in
    let then_told = log_again g (place + record_bytes (first ++ more)) (n + 1) most told gate rest valid form shut each.1 (omega (arith, last)) less in
    subst (IsTold g place n (suc most) (w ∷ told)) (sym whole)
    (one_told g place n most w told more valid form each.0 (omega (arith, last)) (some_rest (records g (n + 1) told) gate rest) then_told)
