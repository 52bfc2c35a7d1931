-- A record is read exactly as it is written.
use Rattle.iso_format.proofs.{Words.{limits, ◌≡◌, ◌≢◌, ℕ, suc, ◌+◌, ◌*◌, ◌^◌, ◌<◌, ◌≤◌, Bool, true, false, ◌&&◌, ◌||◌, ◌==◌, nat_lt, nat_le, cond, not, List, [], ◌∷◌, ◌++◌, Option, Some, None, Result, Ok, Err, IfOk, IfErr, length, get_or, take, drop, IsTrue, flat_map, refl, sym, ap, subst, ◌∙◌, arith, drop-cons, le-leb, ltb-false, le-ltb, eqb-true, eqb-false, eq-eqb, ne_eqb, not-false, and_from, take_at, take-append-drop, length-append, length-take, length-drop, from_be_bytes-to_be_bytes_4, from_be_bytes-to_be_bytes_8, w32, w64, to_be_bytes, Geometry, Run, LAST, or_else, is_valid, AreRuns, body_length, part, spell, FormatError, Short, Kind, NotZero, Count, Number, number_at, Recorded, BeginsWith, is_kind, head_fault, parts_fault, number_fault, body_of, fault_of, recorded, runs_of, bytes_drop, bytes_take, AreBytes}, PartLaws.{neither, unless, length-runs_of, parts_spelled, parts_run, parts_again, runs_again, nine_each}, Parts.{body_bound, count_bound, length-flat_map-part, length-spell}, Pieces.{grow, spelled_32, spelled_64, one_at}}

-- each test passed
pub record IsFree (g : Geometry) (n : ℕ) (bytes : List ℕ) : Type 0 where
  pub head : head_fault g bytes ≡ None
  pub parts : parts_fault g None 20 (number_at w32 4 bytes) (body_of bytes) ≡ None
  pub number : number_fault n bytes ≡ None

pub no_fault : (g : Geometry) (n : ℕ) (bytes : List ℕ) → fault_of g n bytes ≡ None → IsFree g n bytes
unfolding fault_of
no_fault g n bytes e = grind (arith, neither)

or_false : (a b : Bool) → (a || b) ≡ false → (a ≡ false) × (b ≡ false)
or_false true b e = absurd cc
or_false false b e = (refl, e)

passes_both : (a b : Bool) (x : FormatError) → cond (a && b) None (Some x) ≡ None → (a ≡ true) × (b ≡ true)
passes_both true true x e = (refl, refl)
passes_both true false x e = absurd cc
passes_both false b x e = absurd cc

-- ---- what is read is spelled so

-- what the head of a record says, each test passed
record IsHead (g : Geometry) (bytes : List ℕ) : Type 0 where
  long : 21 + number_at w32 8 bytes ≤ length bytes
  kind : IsTrue (is_kind g (get_or bytes 1 0))
  zero_2 : get_or bytes 2 0 ≡ 0
  zero_3 : get_or bytes 3 0 ≡ 0
  some : 0 < number_at w32 4 bytes

head_is : (g : Geometry) (bytes : List ℕ) → head_fault g bytes ≡ None → IsHead g bytes
head_is g bytes e =
    let a = unless (nat_lt (length bytes) 20) (Short 0) _ e in
    let b = unless (nat_lt (length bytes) (21 + number_at w32 8 bytes)) (Short 8) _ a.1 in
    let c = unless (not (is_kind g (get_or bytes 1 0))) (Kind 1) _ b.1 in
    let d = unless (not (get_or bytes 2 0 == 0)) (NotZero 2) _ c.1 in
    let f = unless (not (get_or bytes 3 0 == 0)) (NotZero 3) _ d.1 in
    let h = unless ((number_at w32 4 bytes == 0) || nat_lt (number_at w32 8 bytes) (9 * number_at w32 4 bytes)) (Count 4) None f.1 in
    let counts = or_false (number_at w32 4 bytes == 0) (nat_lt (number_at w32 8 bytes) (9 * number_at w32 4 bytes)) h.0 in
    let ne = eqb-false (number_at w32 4 bytes) 0 counts.0 in
    record {
      long = ltb-false _ _ b.0;
      kind = not-false _ c.0;
      zero_2 = eqb-true _ _ (not-false _ d.0);
      zero_3 = eqb-true _ _ (not-false _ f.0);
      some = omega (arith, ne);
    }

number_is : (n : ℕ) (bytes : List ℕ) → number_fault n bytes ≡ None → (number_at w64 12 bytes ≡ n) × (n ≤ LAST)
number_is n bytes e = grind (arith, passes_both)

-- the bytes before the parts
head_spelled : (g : Geometry) (bytes : List ℕ) → AreBytes bytes → IsHead g bytes →
    take 20 bytes ≡ get_or bytes 0 0 ∷ get_or bytes 1 0 ∷ 0 ∷ 0 ∷ [] ++ to_be_bytes w32 (number_at w32 4 bytes) ++ to_be_bytes w32 (number_at w32 8 bytes) ++ to_be_bytes w64 (number_at w64 12 bytes)
head_spelled g bytes fits h =
    let gate = get_or bytes 0 0 in
    let kind = get_or bytes 1 0 in
    let s1 : take 1 bytes ≡ gate ∷ [] = one_at bytes 0 (omega (arith, h.long)) in
    let s2 : take 2 bytes ≡ gate ∷ kind ∷ [] = grow bytes (gate ∷ []) (kind ∷ []) 1 1 s1 (one_at bytes 1 (omega (arith, h.long))) in
    let z2 : take 1 (drop 2 bytes) ≡ 0 ∷ [] = one_at bytes 2 (omega (arith, h.long)) ∙ ap (λ (b : ℕ). b ∷ []) h.zero_2 in
    let s3 : take 3 bytes ≡ gate ∷ kind ∷ 0 ∷ [] = grow bytes (gate ∷ kind ∷ []) (0 ∷ []) 2 1 s2 z2 in
    let z3 : take 1 (drop 3 bytes) ≡ 0 ∷ [] = one_at bytes 3 (omega (arith, h.long)) ∙ ap (λ (b : ℕ). b ∷ []) h.zero_3 in
    let f4 = gate ∷ kind ∷ 0 ∷ 0 ∷ [] in
    let s4 : take 4 bytes ≡ f4 = grow bytes (gate ∷ kind ∷ 0 ∷ []) (0 ∷ []) 3 1 s3 z3 in
    let count = to_be_bytes w32 (number_at w32 4 bytes) in
    let s8 : take 8 bytes ≡ f4 ++ count = grow bytes f4 count 4 4 s4 (spelled_32 bytes 4 fits (omega (arith, h.long))) in
    let body = to_be_bytes w32 (number_at w32 8 bytes) in
    let s12 : take 12 bytes ≡ f4 ++ count ++ body = grow bytes (f4 ++ count) body 8 4 s8 (spelled_32 bytes 8 fits (omega (arith, h.long))) in
    grow bytes (f4 ++ count ++ body) (to_be_bytes w64 (number_at w64 12 bytes)) 12 8 s12 (spelled_64 bytes 12 fits (omega (arith, h.long)))

-- the pieces of a record
abbrev pieces : (gate kind count len n : ℕ) → List ℕ → List ℕ
pieces gate kind count len n body = gate ∷ kind ∷ 0 ∷ 0 ∷ [] ++ to_be_bytes w32 count ++ to_be_bytes w32 len ++ to_be_bytes w64 n ++ body

pieces_spelled : (gate kind n : ℕ) (parts : List Run) (count len m : ℕ) (body : List ℕ) → length parts ≡ count → body_length parts ≡ len → m ≡ n → body ≡ flat_map part parts →
    pieces gate kind count len m body ≡ spell gate kind n parts
unfolding spell
pieces_spelled gate kind n parts count len m body many long number spelled = grind arith

-- they are as many as they ask for
pub window_fits : (g : Geometry) (n : ℕ) (bytes : List ℕ) → fault_of g n bytes ≡ None → 21 + number_at w32 8 bytes ≤ length bytes
window_fits g n bytes e = (head_is g bytes (no_fault g n bytes e).head).long

pub read_is : (g : Geometry) (n : ℕ) (bytes : List ℕ) → AreBytes bytes → fault_of g n bytes ≡ None → BeginsWith g n (recorded bytes) bytes
read_is g n bytes fits e =
    let free = no_fault g n bytes e in
    let h = head_is g bytes free.head in
    let num = number_is n bytes free.number in
    let count = number_at w32 4 bytes in
    let len = number_at w32 8 bytes in
    let body = body_of bytes in
    let runs = runs_of count body in
    let many : length runs ≡ count = length-runs_of count body in
    let spelled : body ≡ flat_map part runs = parts_spelled g None 20 count body (bytes_take len (drop 20 bytes) (bytes_drop 20 bytes fits)) free.parts in
    let body_len : length body ≡ len = omega (arith, length-take len (drop 20 bytes), length-drop 20 bytes, h.long) in
    let whole_len : body_length runs ≡ len = omega (arith, length-flat_map-part runs, ap length spelled, body_len) in
    let front = get_or bytes 0 0 ∷ get_or bytes 1 0 ∷ 0 ∷ 0 ∷ [] ++ to_be_bytes w32 count ++ to_be_bytes w32 len ++ to_be_bytes w64 (number_at w64 12 bytes) in
    let record_is : take (20 + len) bytes ≡ front ++ body = grow bytes front body 20 len (head_spelled g bytes fits h) refl in
    let spelled_front : front ++ body ≡ spell (get_or bytes 0 0) (get_or bytes 1 0) n runs =
    pieces_spelled (get_or bytes 0 0) (get_or bytes 1 0) n runs count len (number_at w64 12 bytes) body many whole_len num.0 spelled in
    let behind : drop (20 + len) bytes ≡ get_or bytes (20 + len) 0 ∷ drop (suc (20 + len)) bytes = drop-cons bytes (20 + len) 0 (omega (arith, h.long)) in
    record {
      number = num.0;
      last = num.1;
      kind = h.kind;
      some = omega (arith, many, h.some);
      runs = parts_run g None 20 count body free.parts;
      gate = get_or bytes 0 0;
      next = get_or bytes (20 + len) 0;
      rest = drop (suc (20 + len)) bytes;
      spelling = sym (take-append-drop (20 + len) bytes) ∙ ap (λ (x : List ℕ). x ++ drop (20 + len) bytes) (record_is ∙ spelled_front)
          ∙ ap (λ (x : List ℕ). spell (get_or bytes 0 0) (get_or bytes 1 0) n runs ++ x) behind;
    }

-- ---- what is spelled is read

six_pass : (a b c d e f : Bool) (x y z w v u : FormatError) → a ≡ false → b ≡ false → c ≡ true → d ≡ true → e ≡ true → f ≡ false →
    cond a (Some x) (cond b (Some y) (cond (not c) (Some z) (cond (not d) (Some w) (cond (not e) (Some v) (cond f (Some u) None))))) ≡ None
six_pass a b c d e f x y z w v u pa pb pc pd pe pf = rw (pa, pb, pc, pd, pe, pf) refl

-- what the fields of a record that was written say
record Tells (k m : ℕ) (runs : List Run) (bytes : List ℕ) : Type 0 where
  kind : get_or bytes 1 0 ≡ k
  zero_2 : get_or bytes 2 0 ≡ 0
  zero_3 : get_or bytes 3 0 ≡ 0
  count : number_at w32 4 bytes ≡ length runs
  body : number_at w32 8 bytes ≡ body_length runs
  number : number_at w64 12 bytes ≡ m
  parts : body_of bytes ≡ flat_map part runs
  long : 21 + body_length runs ≤ length bytes

tells : (gate kind n : ℕ) (parts : List Run) (next : ℕ) (rest : List ℕ) → n ≤ LAST → body_length parts < 2 ^ 30 → Tells kind n parts (spell gate kind n parts ++ next ∷ rest)
unfolding spell
tells gate kind n parts next rest last small =
    let count : number_at w32 4 (spell gate kind n parts ++ next ∷ rest) ≡ length parts = from_be_bytes-to_be_bytes_4 (length parts) (omega (arith, count_bound parts)) in
    let body : number_at w32 8 (spell gate kind n parts ++ next ∷ rest) ≡ body_length parts = from_be_bytes-to_be_bytes_4 (body_length parts) (omega arith) in
    let number : number_at w64 12 (spell gate kind n parts ++ next ∷ rest) ≡ n = from_be_bytes-to_be_bytes_8 n (omega arith) in
    record {
      kind = refl;
      zero_2 = refl;
      zero_3 = refl;
      count = count;
      body = body;
      number = number;
      parts = ap (λ (k : ℕ). take k (flat_map part parts ++ next ∷ rest)) body ∙ take_at (flat_map part parts) (next ∷ rest) (body_length parts) (length-flat_map-part parts);
      long = omega (arith, length-append (spell gate kind n parts) (next ∷ rest), length-spell gate kind n parts);
    }

told_free : (g : Geometry) (kind n : ℕ) (parts : List Run) (bytes : List ℕ) → Tells kind n parts bytes → IsTrue (is_valid g) → n ≤ LAST → IsTrue (is_kind g kind) →
    0 < length parts → AreRuns g parts → fault_of g n bytes ≡ None
unfolding fault_of
told_free g kind n [] bytes t valid last known some runs = absurd (omega arith)
told_free g kind n (x ∷ more) bytes t valid last known some runs =
    let parts = x ∷ more in
    let count = number_at w32 4 bytes in
    let len = number_at w32 8 bytes in
    let nine = nine_each g parts runs in
    let many : count ≢ 0 = omega (arith, t.count, some) in
    let a : nat_lt (length bytes) 20 ≡ false = le-ltb _ _ (omega (arith, t.long)) in
    let b : nat_lt (length bytes) (21 + len) ≡ false = le-ltb _ _ (omega (arith, t.long, t.body)) in
    let c : is_kind g (get_or bytes 1 0) ≡ true = rw t.kind known in
    let d : (get_or bytes 2 0 == 0) ≡ true = eq-eqb _ _ t.zero_2 in
    let e : (get_or bytes 3 0 == 0) ≡ true = eq-eqb _ _ t.zero_3 in
    let f : ((count == 0) || nat_lt len (9 * count)) ≡ false = rw (ne_eqb count 0 many) (le-ltb len (9 * count) (omega (arith, t.count, t.body, nine))) in
    let head : head_fault g bytes ≡ None = six_pass _ _ _ _ _ _ (Short 0) (Short 8) (Kind 1) (NotZero 2) (NotZero 3) (Count 4) a b c d e f in
    let body : parts_fault g None 20 count (body_of bytes) ≡ None =
    ap (λ (k : ℕ). parts_fault g None 20 k (body_of bytes)) t.count ∙ ap (parts_fault g None 20 (length parts)) t.parts ∙ parts_again g None 20 x more (limits g valid) runs refl in
    let both : ((number_at w64 12 bytes == n) && nat_le n LAST) ≡ true = and_from _ _ (eq-eqb _ _ t.number) (le-leb n LAST last) in
    let number : number_fault n bytes ≡ None = ap (λ (z : Bool). cond z None (Some (Number 12))) both in
    ap (λ (o : Option FormatError). or_else o (or_else (parts_fault g None 20 count (body_of bytes)) (number_fault n bytes))) head
    ∙ ap (λ (o : Option FormatError). or_else o (number_fault n bytes)) body ∙ number

told_recorded : (g : Geometry) (kind n : ℕ) (parts : List Run) (bytes : List ℕ) → Tells kind n parts bytes → IsTrue (is_valid g) → AreRuns g parts →
    recorded bytes ≡ record { number = n; kind = kind; parts = parts }
told_recorded g kind n parts bytes t valid runs =
    let again : runs_of (number_at w32 4 bytes) (body_of bytes) ≡ parts =
    ap (λ (k : ℕ). runs_of k (body_of bytes)) t.count ∙ ap (runs_of (length parts)) t.parts ∙ runs_again g parts (limits g valid) runs in
    rw (t.number, t.kind, again) refl

-- what the bytes begin with is read
pub record Again (g : Geometry) (n : ℕ) (r : Recorded) (bytes : List ℕ) : Type 0 where
  pub free : fault_of g n bytes ≡ None
  pub told : recorded bytes ≡ r

pub record_again : (g : Geometry) (n : ℕ) (r : Recorded) (bytes : List ℕ) → IsTrue (is_valid g) → BeginsWith g n r bytes → Again g n r bytes
record_again g n r bytes valid b =
    let small : body_length r.parts < 2 ^ 30 = body_bound r.parts (g, valid, b.runs) in
    let t : Tells r.kind n r.parts bytes = subst (Tells r.kind n r.parts) (sym b.spelling) (tells b.gate r.kind n r.parts b.next b.rest b.last small) in
    record {
      free = told_free g r.kind n r.parts bytes t valid b.last b.kind b.some b.runs;
      told = told_recorded g r.kind n r.parts bytes t valid b.runs ∙ ap (λ (k : ℕ). record { number = k; kind = r.kind; parts = r.parts }) (sym b.number);
    }

-- a result of reading, by what the test said
pub ok_begins : (g : Geometry) (n : ℕ) (bytes : List ℕ) (read : Result Recorded FormatError) → AreBytes bytes →
    IfOk read (λ r. (fault_of g n bytes ≡ None) × (r ≡ recorded bytes)) → IfOk read (λ r. BeginsWith g n r bytes)
ok_begins g n bytes (Ok r) fits found = rw found.1 (read_is g n bytes fits found.0)
ok_begins g n bytes (Err e) fits found = tt

pub begins_ok : (g : Geometry) (n : ℕ) (r : Recorded) (bytes : List ℕ) (read : Result Recorded FormatError) →
    IfOk read (λ r. (fault_of g n bytes ≡ None) × (r ≡ recorded bytes)) → IfErr read (λ e. fault_of g n bytes ≡ Some e) →
    IsTrue (is_valid g) → BeginsWith g n r bytes → read ≡ Ok r
begins_ok g n r bytes (Ok x) found fault valid b = ap (λ (z : Recorded). Ok z) (found.1 ∙ (record_again g n r bytes valid b).told)
begins_ok g n r bytes (Err e) found fault valid b =
    let free = (record_again g n r bytes valid b).free in
    absurd (cc (free, fault))
