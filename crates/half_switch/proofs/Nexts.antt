-- The records in the bytes of a log, one by one.
use Rattle.half_switch.proofs.Words.{◌≡◌, ◌≢◌, ◌<◌, ◌≤◌, ◌+◌, ◌-◌, ℕ, zero, suc, List, [], ◌∷◌, ◌++◌, length, take, drop, Bool, true, false, cond, IsTrue, refl, sym, ◌∙◌, ap, arith, subst, eq-eqb, length-append, true≢false, append_assoc, Result, Ok, Err, set, take-append-drop, AllByRecursion, to_be_bytes, w32, from_be_bytes-to_be_bytes_4, drop_at, drop-drop, length-take-le, Geometry, Mode, Run, LAST, is_valid, same_mode, AreRuns, IsRecord, Written, body_length, half_header, kind_of, records, spell, limits, length-spell, BeginsWith, Recorded, is_kind, record_window, body_bound, records-append, AreBytesOf, all_laid, laid}

cons_of : (xs : List ℕ) (gate : ℕ) (rest : List ℕ) → (next : ℕ) × (more : List ℕ) × (xs ++ gate ∷ rest ≡ next ∷ more)
cons_of [] gate rest = (gate, rest, refl)
cons_of (x ∷ xs) gate rest = (x, xs ++ gate ∷ rest, refl)

-- after the first record the others stand
behind_first : (g : Geometry) (n : ℕ) (w : Written) (told : List Written) (bytes : List ℕ) → AreBytesOf g n (w ∷ told) bytes
    → AreBytesOf g (n + 1) told (drop (length (spell 1 (kind_of g w.mode) n w.parts)) bytes)
behind_first g n w told bytes has =
    let (gate, rest, is) = has in (
      gate,
      rest,
      ap (drop (length (spell 1 (kind_of g w.mode) n w.parts))) (is ∙ append_assoc (spell 1 (kind_of g w.mode) n w.parts) (records g (n + 1) told) (gate ∷ rest))
          ∙ drop_at (spell 1 (kind_of g w.mode) n w.parts) (records g (n + 1) told ++ gate ∷ rest) (length (spell 1 (kind_of g w.mode) n w.parts)) refl,
    )

-- after the first i records the others stand
behind : (g : Geometry) (n i : ℕ) (told : List Written) (bytes : List ℕ) → i ≤ length told → AreBytesOf g n told bytes
    → AreBytesOf g (n + i) (drop i told) (drop (length (records g n (take i told))) bytes)
behind g n zero told bytes le has = let e : n + 0 ≡ n = omega arith in rw e has
behind g n (suc i) [] bytes le has = absurd (omega arith)
behind g n (suc i) (w ∷ told) bytes le has =
    let e : n + suc i ≡ n + 1 + i = omega arith in
    let sum : length (spell 1 (kind_of g w.mode) n w.parts ++ records g (n + 1) (take i told)) ≡ length (spell 1 (kind_of g w.mode) n w.parts) + length (records g (n + 1) (take i told)) =
    length-append (spell 1 (kind_of g w.mode) n w.parts) (records g (n + 1) (take i told)) in
    let rest = behind g (n + 1) i told (drop (length (spell 1 (kind_of g w.mode) n w.parts)) bytes) (omega arith) (behind_first g n w told bytes has) in
    let same : drop (length (records g (n + 1) (take i told))) (drop (length (spell 1 (kind_of g w.mode) n w.parts)) bytes) ≡ drop (length (spell 1 (kind_of g w.mode) n w.parts ++ records g (n + 1) (take i told))) bytes =
    drop-drop (length (records g (n + 1) (take i told))) (length (spell 1 (kind_of g w.mode) n w.parts)) bytes ∙ ap (λ (k : ℕ). drop k bytes) (sym sum) in
    rw e (subst (AreBytesOf g (n + 1 + i) (drop i told)) same rest)

-- the record with the index i
pub record Here (g : Geometry) (told : List Written) (i : ℕ) : Type 0 where
  pub w : Written
  pub more : List Written
  pub rest : drop i told ≡ w ∷ more
  pub front : take (i + 1) told ≡ take i told ++ w ∷ []
  pub is : IsRecord g w

here : (g : Geometry) (told : List Written) (i : ℕ) → i < length told → AllByRecursion (IsRecord g) told → Here g told i
here g [] i below each = absurd (omega arith)
here g (w ∷ told) zero below each = record { w = w; more = told; rest = refl; front = refl; is = each.0 }
here g (w ∷ told) (suc i) below each =
    let next = here g told i (omega arith) each.1 in
    let e : suc i + 1 ≡ suc (i + 1) = omega arith in
    record { w = next.w; more = next.more; rest = next.rest; front = (rw e (ap (λ (l : List Written). w ∷ l) next.front)); is = next.is }

same_self : (m : Mode) → same_mode m m ≡ true
same_self m = grind arith

kind_allowed : (g : Geometry) (w : Written) → IsTrue (is_valid g) → IsRecord g w → IsTrue (is_kind g (kind_of g w.mode))
kind_allowed g w valid is = go (same_mode w.mode g.mode) refl
  where
    go : (t : Bool) → same_mode w.mode g.mode ≡ t → IsTrue (is_kind g (cond t 1 2))
    go true same = refl
    go false not =
        let bounds = limits g valid in
        let form : g.form ≢ 1 = λ one. true≢false (sym (same_self g.mode) ∙ ap (λ (m : Mode). same_mode m g.mode) (sym (is.mode one)) ∙ not) in
        eq-eqb g.form 2 (omega (arith, bounds.least_form, bounds.largest_form, form))

spell_body : (gate kind n : ℕ) (parts : List Run) (rest : List ℕ) → take 4 (drop 8 (spell gate kind n parts ++ rest)) ≡ to_be_bytes w32 (body_length parts)
unfolding spell
spell_body gate kind n parts rest = refl

-- the window of a record that is spelled
window_is : (g : Geometry) (gate kind n : ℕ) (parts : List Run) (next : ℕ) (rest : List ℕ) → IsTrue (is_valid g) → AreRuns g parts
    → record_window (spell gate kind n parts ++ next ∷ rest) ≡ length (spell gate kind n parts) + 1
window_is g gate kind n parts next rest valid all = grind (arith, body_bound, spell_body, from_be_bytes-to_be_bytes_4, length-spell)

-- what is read of the first record
pub record NextIs (g : Geometry) (n : ℕ) (w : Written) (bytes : List ℕ) : Type 0 where
  pub read : Recorded
  pub parts_are : read.parts ≡ w.parts
  pub begins : BeginsWith g n read bytes
  pub size : record_window bytes ≡ length (spell 1 (kind_of g w.mode) n w.parts) + 1

next_is : (g : Geometry) (n : ℕ) (w : Written) (more : List Written) (bytes : List ℕ) → IsTrue (is_valid g) → IsRecord g w → n ≤ LAST → AreBytesOf g n (w ∷ more) bytes → NextIs g n w bytes
next_is g n w more bytes valid is small has =
    let (gate, rest, spelled) = has in
    let (next, tail, cons) = cons_of (records g (n + 1) more) gate rest in
    let all : bytes ≡ spell 1 (kind_of g w.mode) n w.parts ++ next ∷ tail =
    spelled ∙ append_assoc (spell 1 (kind_of g w.mode) n w.parts) (records g (n + 1) more) (gate ∷ rest) ∙ ap (λ (l : List ℕ). spell 1 (kind_of g w.mode) n w.parts ++ l) cons in
    record {
      read = record { number = n; kind = kind_of g w.mode; parts = w.parts };
      parts_are = refl;
      begins = record {
        number = refl;
        last = small;
        kind = kind_allowed g w valid is;
        some = is.some;
        runs = is.runs;
        gate = 1;
        next = next;
        rest = tail;
        spelling = all;
      };
      size = ap record_window all ∙ window_is g 1 (kind_of g w.mode) n w.parts next tail valid is.runs;
    }

-- one record more
pub all_laid-push : (size : ℕ) (told : List Written) (w : Written) (c : List ℕ) → all_laid size (told ++ w ∷ []) c ≡ laid size w.parts (all_laid size told c)
all_laid-push size [] w c = refl
all_laid-push size (x ∷ told) w c = all_laid-push size told w (laid size x.parts c)

length-push : (g : Geometry) (n : ℕ) (told : List Written) (w : Written) → length (records g n (told ++ w ∷ [])) ≡ length (records g n told) + length (spell 1 (kind_of g w.mode) (n + length told) w.parts)
length-push g n told w =
    let last : length (spell 1 (kind_of g w.mode) (n + length told) w.parts ++ []) ≡ length (spell 1 (kind_of g w.mode) (n + length told) w.parts) + 0 = length-append (spell 1 (kind_of g w.mode) (n + length told) w.parts) [] in
    omega (arith, ap length (records-append g n told (w ∷ [])), length-append (records g n told) (spell 1 (kind_of g w.mode) (n + length told) w.parts ++ []), last)

-- what is at the next record of a loop
pub record AtNext (g : Geometry) (n i : ℕ) (told : List Written) (rest : List ℕ) : Type 0 where
  pub here : Here g told i
  pub next : NextIs g (n + i) here.w rest

pub at_next : (g : Geometry) (n i at : ℕ) (told : List Written) (log rest : List ℕ) → IsTrue (is_valid g) → AllByRecursion (IsRecord g) told → i < length told → n + i ≤ LAST
    → AreBytesOf g n told log → at ≡ length (records g n (take i told)) → rest ≡ drop at log → AtNext g n i told rest
at_next g n i at told log rest valid each below small has place is =
    let h = here g told i below each in
    let there : AreBytesOf g (n + i) (drop i told) (drop (length (records g n (take i told))) log) = behind g n i told log (omega arith) has in
    let same : drop (length (records g n (take i told))) log ≡ rest = ap (λ (k : ℕ). drop k log) (sym place) ∙ sym is in
    record {
      here = h;
      next = next_is g (n + i) h.w h.more rest valid h.is small (subst (λ (l : List Written). AreBytesOf g (n + i) l rest) h.rest (subst (AreBytesOf g (n + i) (drop i told)) same there));
    }

-- a record that is read, and the byte after it, take up its window
pub record IsInside (bytes : List ℕ) : Type 0 where
  pub head : 20 ≤ length bytes
  pub window : record_window bytes ≤ length bytes

pub window_inside : (g : Geometry) (n : ℕ) (r : Recorded) (bytes : List ℕ) → IsTrue (is_valid g) → BeginsWith g n r bytes → IsInside bytes
window_inside g n r bytes valid has =
    let window = window_is g has.gate r.kind n r.parts has.next has.rest valid has.runs in
    let there : record_window bytes ≡ record_window (spell has.gate r.kind n r.parts ++ has.next ∷ has.rest) = ap record_window has.spelling in
    let count = ap length has.spelling in
    let more = length-append (spell has.gate r.kind n r.parts) (has.next ∷ has.rest) in
    let long = length-spell has.gate r.kind n r.parts in
    record { head = omega (arith, count, more, long); window = omega (arith, window, there, count, more) }

-- the length so far, and with one record more
pub length-more : (g : Geometry) (n i at size : ℕ) (told : List Written) (h : Here g told i) → at ≡ length (records g n (take i told)) → size ≡ length (spell 1 (kind_of g h.w.mode) (n + i) h.w.parts)
    → at + size ≡ length (records g n (take (i + 1) told))
length-more g n i at size told h place size_is = grind (arith, length-push, length-spell)

-- the parts of what was read
parts_of : {E : Type 0} → Result Recorded E → List Run
parts_of (Ok r) = r.parts
parts_of (Err e) = []

pub same_parts : {E : Type 0} (result : Result Recorded E) (a b : Recorded) → result ≡ Ok a → result ≡ Ok b → a.parts ≡ b.parts
unfolding parts_of
same_parts result a b first second = ap parts_of (sym first ∙ second)

pub length-header : (gate form generation base : ℕ) → length (half_header gate form generation base) ≡ 32
unfolding half_header
length-header gate form generation base = refl

set_gate : (xs : List ℕ) (n gate v : ℕ) → n ≡ length xs → set (xs ++ gate ∷ []) n v ≡ xs ++ v ∷ []
set_gate [] zero gate v is = refl
set_gate [] (suc n) gate v is = absurd (omega (arith, is))
set_gate (x ∷ xs) zero gate v is = absurd (omega (arith, is))
set_gate (x ∷ xs) (suc n) gate v is = ap (λ (l : List ℕ). x ∷ l) (set_gate xs n gate v (omega (arith, is)))

-- the records after the first k
pub records_split : (g : Geometry) (n k : ℕ) (told : List Written) → k ≤ length told → records g n told ≡ records g n (take k told) ++ records g (n + k) (drop k told)
records_split g n k told le =
    ap (records g n) (sym (take-append-drop k told)) ∙ records-append g n (take k told) (drop k told)
    ∙ ap (λ (m : ℕ). records g n (take k told) ++ records g (n + m) (drop k told)) (length-take-le k told le)

-- what is copied of a log: the records after the first, and a closed gate
pub rest_is : (g : Geometry) (old_base base used gate : ℕ) (told : List Written) (log : List ℕ) (at : ℕ) → old_base ≤ base → base - old_base ≤ length told
    → log ≡ records g (old_base + 1) told ++ gate ∷ [] → used ≡ length (records g (old_base + 1) told) → at ≡ length (records g (old_base + 1) (take (base - old_base) told))
    → drop at (set log used 0) ≡ records g (base + 1) (drop (base - old_base) told) ++ 0 ∷ []
rest_is g old_base base used gate told log at rises enough is used_is at_is =
    let number : old_base + 1 + (base - old_base) ≡ base + 1 = omega arith in
    let all : set log used 0 ≡ records g (old_base + 1) (take (base - old_base) told) ++ (records g (old_base + 1 + (base - old_base)) (drop (base - old_base) told) ++ 0 ∷ []) =
    ap (λ (l : List ℕ). set l used 0) is ∙ set_gate (records g (old_base + 1) told) used gate 0 used_is
    ∙ ap (λ (l : List ℕ). l ++ 0 ∷ []) (records_split g (old_base + 1) (base - old_base) told enough)
    ∙ append_assoc (records g (old_base + 1) (take (base - old_base) told)) (records g (old_base + 1 + (base - old_base)) (drop (base - old_base) told)) (0 ∷ []) in
    ap (drop at) all ∙ drop_at (records g (old_base + 1) (take (base - old_base) told)) (records g (old_base + 1 + (base - old_base)) (drop (base - old_base) told) ++ 0 ∷ []) at (sym at_is)
    ∙ ap (λ (m : ℕ). records g m (drop (base - old_base) told) ++ 0 ∷ []) number
