-- The parts of a record are read exactly as they are written.
use Rattle.iso_format.proofs.{Words.{Limits, ◌≡◌, ℕ, zero, suc, ◌+◌, ◌-◌, ◌*◌, ◌<◌, ◌≤◌, Bool, true, false, ◌&&◌, ◌||◌, ◌==◌, nat_lt, cond, not, inl, inr, List, [], ◌∷◌, ◌++◌, Option, Some, None, length, take, drop, IsTrue, flat_map, refl, sym, ap, ◌∙◌, arith, le-leb, ltb-true, ltb-false, lt-ltb, le-ltb, eqb-true, eq-eqb, not-false, or_cases, and_parts, and_from, or_right, take_at, drop_at, take-append-drop, length-append, length-take, length-drop, flat_map-cons, sum_by-cons, from_be_bytes-to_be_bytes_2, from_be_bytes-to_be_bytes_4, w16, w32, to_be_bytes, AllByRecursion, Geometry, Run, or_else, IsRun, AreRuns, ComesAfter, part, body_length, FormatError, Order, Range, Length, number_at, IsSmall, run_of, runs_of, part_size, part_end, HasParts, follows, lies_in, part_fault, parts_fault, bytes_drop, AreBytes}, Pieces.{grow, spelled_16, spelled_32}}

-- none of two tests failed
pub neither : {A : Type 0} (x y : Option A) → or_else x y ≡ None → (x ≡ None) × (y ≡ None)
neither None y e = (refl, e)
neither (Some x) y e = absurd cc

-- a test that is to fail did not, and the others followed
pub unless : {A : Type 0} (b : Bool) (x : A) (y : Option A) → cond b (Some x) y ≡ None → (b ≡ false) × (y ≡ None)
unless true x y e = absurd cc
unless false x y e = (refl, e)

-- a part that passed each test
pub record IsGood (g : Geometry) (before : Option (ℕ × ℕ)) (body : List ℕ) : Type 0 where
  pub head : 8 ≤ length body
  pub order : IsTrue (follows before body)
  pub lies : IsTrue (lies_in g body)
  pub long : part_size body ≤ length body

pub good : (g : Geometry) (before : Option (ℕ × ℕ)) (at : ℕ) (body : List ℕ) → part_fault g before at body ≡ None → IsGood g before body
good g before at body e =
    let a = unless (nat_lt (length body) 8) (Length at) _ e in
    let b = unless (not (follows before body)) (Order at) _ a.1 in
    let c = unless (not (lies_in g body)) (Range at) _ b.1 in
    let d = unless (nat_lt (length body) (part_size body)) (Length at) None c.1 in
    record { head = ltb-false _ _ a.0; order = not-false _ b.0; lies = not-false _ c.0; long = ltb-false _ _ d.0 }

-- parts that passed each test
pub passed : (g : Geometry) (before : Option (ℕ × ℕ)) (at n : ℕ) (body : List ℕ) → parts_fault g before at (suc n) body ≡ None →
    IsGood g before body × (parts_fault g (Some (part_end body)) (at + part_size body) n (drop (part_size body) body) ≡ None)
unfolding parts_fault
passed g before at n body e = search (arith, neither)

pub ended : (g : Geometry) (before : Option (ℕ × ℕ)) (at : ℕ) (body : List ℕ) → parts_fault g before at 0 body ≡ None → body ≡ []
unfolding parts_fault
ended g before at [] e = refl
ended g before at (b ∷ body) e = absurd cc

pub has_parts : (g : Geometry) (before : Option (ℕ × ℕ)) (at n : ℕ) (body : List ℕ) → parts_fault g before at n body ≡ None → HasParts n body
has_parts g before at zero body e = tt
has_parts g before at (suc n) body e =
    let p = passed g before at n body e in
    (p.0.long, has_parts g (Some (part_end body)) (at + part_size body) n (drop (part_size body) body) p.1)

-- the first of some parts, and the others
pub first_part : (n : ℕ) (body : List ℕ) → 0 < n → HasParts n body → (part_size body ≤ length body) × HasParts (n - 1) (drop (part_size body) body)
first_part n body lt h = grind arith

pub first_run : (n : ℕ) (body : List ℕ) → 0 < n → runs_of n body ≡ run_of body ∷ runs_of (n - 1) (drop (part_size body) body)
first_run n body lt = grind arith

pub length-runs_of : (n : ℕ) (body : List ℕ) → length (runs_of n body) ≡ n
length-runs_of zero body = refl
length-runs_of (suc n) body = ap suc (length-runs_of n (drop (part_size body) body))

run_length : (body : List ℕ) → part_size body ≤ length body → length (run_of body).bytes ≡ number_at w16 6 body
run_length body long = omega (arith, length-take (number_at w16 6 body) (drop 8 body), length-drop 8 body)

-- the bytes of one part
part_spelled : (body : List ℕ) → AreBytes body → part_size body ≤ length body → take (part_size body) body ≡ part (run_of body)
part_spelled body fits long =
    let block = to_be_bytes w32 (number_at w32 0 body) in
    let off = to_be_bytes w16 (number_at w16 4 body) in
    let len = to_be_bytes w16 (number_at w16 6 body) in
    let s4 : take 4 body ≡ block = spelled_32 body 0 fits (omega arith) in
    let s6 : take 6 body ≡ block ++ off = grow body block off 4 2 s4 (spelled_16 body 4 fits (omega arith)) in
    let s8 : take 8 body ≡ block ++ off ++ len = grow body (block ++ off) len 6 2 s6 (spelled_16 body 6 fits (omega arith)) in
    let whole : take (part_size body) body ≡ block ++ off ++ len ++ (run_of body).bytes = grow body (block ++ off ++ len) (run_of body).bytes 8 (number_at w16 6 body) s8 refl in
    whole ∙ ap (λ (n : ℕ). block ++ off ++ to_be_bytes w16 n ++ (run_of body).bytes) (sym (run_length body long))

-- the bytes of parts that passed each test
pub parts_spelled : (g : Geometry) (before : Option (ℕ × ℕ)) (at n : ℕ) (body : List ℕ) → AreBytes body → parts_fault g before at n body ≡ None → body ≡ flat_map part (runs_of n body)
parts_spelled g before at zero body fits e = ended g before at body e
parts_spelled g before at (suc n) body fits e =
    let p = passed g before at n body e in
    let size = part_size body in
    let others = parts_spelled g (Some (part_end body)) (at + size) n (drop size body) (bytes_drop size body fits) p.1 in
    sym (take-append-drop size body) ∙ ap (λ (x : List ℕ). x ++ drop size body) (part_spelled body fits p.0.long) ∙ ap (λ (x : List ℕ). part (run_of body) ++ x) others
    ∙ sym (flat_map-cons part (run_of body) (runs_of n (drop size body)))

is_run : (g : Geometry) (before : Option (ℕ × ℕ)) (body : List ℕ) → IsGood g before body → IsRun g (run_of body)
is_run g before body p = search (arith, run_length)

comes_after : (body next : List ℕ) → part_size body ≤ length body → IsTrue (follows (Some (part_end body)) next) → ComesAfter (run_of body) (run_of next)
comes_after body next long h =
    let len = run_length body long in
    let a = number_at w32 0 body in
    let b = number_at w32 0 next in
    let end = number_at w16 4 body + number_at w16 6 body in
    elim (or_cases (nat_lt a b) ((a == b) && nat_lt end (number_at w16 4 next)) h) [
      | inl later ↦ inl (ltb-true a b later)
      | inr same ↦
          let p = and_parts (a == b) (nat_lt end (number_at w16 4 next)) same in
          let behind : end < number_at w16 4 next = ltb-true _ _ p.1 in
          inr (eqb-true a b p.0, omega (arith, len, behind))
    ]

-- parts that passed each test are maximal runs, rising
pub parts_run : (g : Geometry) (before : Option (ℕ × ℕ)) (at n : ℕ) (body : List ℕ) → parts_fault g before at n body ≡ None → AreRuns g (runs_of n body)
parts_run g before at zero body e = tt
parts_run g before at (suc zero) body e = is_run g before body (passed g before at 0 body e).0
parts_run g before at (suc (suc n)) body e =
    let p = passed g before at (suc n) body e in
    let size = part_size body in
    let rest = drop size body in
    let q = passed g (Some (part_end body)) (at + size) n rest p.1 in
    (is_run g before body p.0, comes_after body rest p.0.long q.0.order, parts_run g (Some (part_end body)) (at + size) (suc n) rest p.1)

-- ---- parts that were written are read again

pub small_run : (g : Geometry) (x : Run) → Limits g → IsRun g x → IsSmall x
small_run g x b r = record { block = omega (arith, r.block, b.most_blocks); off = omega (arith, r.fits, b.largest_block); len = omega (arith, r.fits, b.largest_block) }

-- what the fields of a part say
record Says (x : Run) (body rest : List ℕ) : Type 0 where
  block : number_at w32 0 body ≡ x.block
  off : number_at w16 4 body ≡ x.off
  len : number_at w16 6 body ≡ length x.bytes
  run : run_of body ≡ x
  behind : drop (8 + length x.bytes) body ≡ rest
  long : 8 + length x.bytes ≤ length body

says : (x : Run) (rest : List ℕ) → IsSmall x → Says x (part x ++ rest) rest
says x rest s =
    let block : number_at w32 0 (part x ++ rest) ≡ x.block = from_be_bytes-to_be_bytes_4 x.block s.block in
    let off : number_at w16 4 (part x ++ rest) ≡ x.off = from_be_bytes-to_be_bytes_2 x.off s.off in
    let len : number_at w16 6 (part x ++ rest) ≡ length x.bytes = from_be_bytes-to_be_bytes_2 (length x.bytes) s.len in
    let size : length (part x) ≡ 8 + length x.bytes = omega arith in
    record {
      block = block;
      off = off;
      len = len;
      run = rw (block, off, len, take_at x.bytes rest (length x.bytes) refl) refl;
      behind = drop_at (part x) rest (8 + length x.bytes) size;
      long = omega (arith, length-append (part x) rest, size);
    }

-- whether a run may follow one that ended there
abbrev pub run_follows : Option (ℕ × ℕ) → Run → Bool
run_follows None x = true
run_follows (Some before) x = nat_lt before.0 x.block || ((before.0 == x.block) && nat_lt before.1 x.off)

follows-run : (before : Option (ℕ × ℕ)) (x : Run) (body rest : List ℕ) → Says x body rest → follows before body ≡ run_follows before x
follows-run None x body rest s = refl
follows-run (Some before) x body rest s = rw (s.block, s.off) refl

abbrev run_end : Run → ℕ × ℕ
run_end x = (x.block, x.off + length x.bytes)

none_fails : (a b c d : Bool) (x y z w : FormatError) → a ≡ false → b ≡ true → c ≡ true → d ≡ false →
    cond a (Some x) (cond (not b) (Some y) (cond (not c) (Some z) (cond d (Some w) None))) ≡ None
none_fails a b c d x y z w pa pb pc pd = rw (pa, pb, pc, pd) refl

part_again : (g : Geometry) (before : Option (ℕ × ℕ)) (at : ℕ) (x : Run) (body rest : List ℕ) → Says x body rest → IsRun g x → IsTrue (run_follows before x) → part_fault g before at body ≡ None
part_again g before at x body rest s r f =
    let some : 1 ≤ length x.bytes = omega (arith, r.some) in
    let lies : lies_in g body ≡ true = rw (s.block, s.off, s.len) (and_from _ _ (and_from _ _ (lt-ltb x.block g.blocks r.block) (le-leb 1 (length x.bytes) some)) (le-leb (x.off + length x.bytes) g.block r.fits)) in
    let size : part_size body ≡ 8 + length x.bytes = ap (λ (n : ℕ). 8 + n) s.len in
    none_fails (nat_lt (length body) 8) (follows before body) (lies_in g body) (nat_lt (length body) (part_size body)) (Length at) (Order at) (Range at) (Length at)
    (le-ltb _ _ (omega (arith, s.long))) (follows-run before x body rest s ∙ f) lies (le-ltb _ _ (omega (arith, s.long, size)))

step_again : (g : Geometry) (before : Option (ℕ × ℕ)) (at n : ℕ) (x : Run) (body rest : List ℕ) → Says x body rest → IsRun g x → IsTrue (run_follows before x) →
    parts_fault g before at (suc n) body ≡ parts_fault g (Some (run_end x)) (at + (8 + length x.bytes)) n rest
unfolding parts_fault
step_again g before at n x body rest s r f =
    let size : part_size body ≡ 8 + length x.bytes = ap (λ (k : ℕ). 8 + k) s.len in
    let end : part_end body ≡ run_end x = rw (s.block, s.off, s.len) refl in
    ap (λ (o : Option FormatError). or_else o (parts_fault g (Some (part_end body)) (at + part_size body) n (drop (part_size body) body))) (part_again g before at x body rest s r f)
    ∙ ap (λ (p : ℕ × ℕ). parts_fault g (Some p) (at + part_size body) n (drop (part_size body) body)) end
    ∙ ap (λ (k : ℕ). parts_fault g (Some (run_end x)) (at + k) n (drop k body)) size
    ∙ ap (parts_fault g (Some (run_end x)) (at + (8 + length x.bytes)) n) s.behind

follows_after : (x y : Run) → ComesAfter x y → IsTrue (run_follows (Some (run_end x)) y)
follows_after x y (inl later) = rw (lt-ltb x.block y.block later) refl
follows_after x y (inr same) = or_right (nat_lt x.block y.block) _ (and_from _ _ (eq-eqb x.block y.block same.0) (lt-ltb (x.off + length x.bytes) y.off same.1))

done : (g : Geometry) (before : Option (ℕ × ℕ)) (at : ℕ) → parts_fault g before at 0 [] ≡ None
unfolding parts_fault
done g before at = refl

pub parts_again : (g : Geometry) (before : Option (ℕ × ℕ)) (at : ℕ) (x : Run) (more : List Run) → Limits g → AreRuns g (x ∷ more) → IsTrue (run_follows before x) →
    parts_fault g before at (length (x ∷ more)) (flat_map part (x ∷ more)) ≡ None
parts_again g before at x [] b r f =
    step_again g before at 0 x (part x ++ []) [] (says x [] (small_run g x b r)) r f ∙ done g (Some (run_end x)) (at + (8 + length x.bytes))
parts_again g before at x (y ∷ more) b r f =
    let rest = flat_map part (y ∷ more) in
    step_again g before at (length (y ∷ more)) x (part x ++ rest) rest (says x rest (small_run g x b r.0)) r.0 f
    ∙ parts_again g (Some (run_end x)) (at + (8 + length x.bytes)) y more b r.2 (follows_after x y r.1)

run_again : (n : ℕ) (x : Run) (body rest : List ℕ) → Says x body rest → runs_of (suc n) body ≡ x ∷ runs_of n rest
run_again n x body rest s = grind arith

pub small_again : (parts : List Run) → AllByRecursion IsSmall parts → runs_of (length parts) (flat_map part parts) ≡ parts
small_again [] s = refl
small_again (x ∷ []) s = run_again 0 x (part x ++ []) [] (says x [] s.0)
small_again (x ∷ y ∷ more) s =
    let rest = flat_map part (y ∷ more) in
    run_again (length (y ∷ more)) x (part x ++ rest) rest (says x rest s.0) ∙ ap (λ (z : List Run). x ∷ z) (small_again (y ∷ more) s.1)

pub are_small : (g : Geometry) (parts : List Run) → Limits g → AreRuns g parts → AllByRecursion IsSmall parts
are_small g [] b r = tt
are_small g (x ∷ []) b r = (small_run g x b r, tt)
are_small g (x ∷ y ∷ more) b r = (small_run g x b r.0, are_small g (y ∷ more) b r.2)

pub runs_again : (g : Geometry) (parts : List Run) → Limits g → AreRuns g parts → runs_of (length parts) (flat_map part parts) ≡ parts
runs_again g parts b r = small_again parts (are_small g parts b r)

-- each part has a byte at least
pub nine_each : (g : Geometry) (parts : List Run) → AreRuns g parts → 9 * length parts ≤ body_length parts
nine_each g [] r = omega arith
nine_each g (x ∷ []) r = omega (arith, r.some)
nine_each g (x ∷ y ∷ more) r =
    omega (arith, r.0.some, nine_each g (y ∷ more) r.2, sum_by-cons (λ (run : Run). 8 + length run.bytes) x (y ∷ more))
