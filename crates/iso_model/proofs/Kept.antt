-- What it says that a byte is written up to a trim number.
use Rattle.iso_model.proofs.Words.{◌≡◌, ◌⊎◌, ℕ, suc, ◌+◌, ◌-◌, ◌<◌, ◌≤◌, Bool, true, false, not, get_or, ◌&&◌, ◌||◌, List, [], ◌∷◌, refl, inl, inr, arith, slice_get, sym, ap, ◌∙◌, nat_le, nat_lt, length, filter, sum_by, and_parts, and_from, or_cases, cases_eq, both_ways, leb-true, le-leb, lt-ltb, ltb-true, Any-from_list_any, list_any_at, get_or-range_with_len, length-range_with_len, list_any, range_with_len, sum_by-cons, same_Some, Commit, Geometry, Run, Write, runs, touches, is_kept, is_written, kept_from, versions, IsWritten, StillShows, World, logged_commits}

or_left : (x y : Bool) → x ≡ true → (x || y) ≡ true
or_left true y e = refl
or_left false y e = cc

or_right : (x y : Bool) → y ≡ true → (x || y) ≡ true
or_right true y e = refl
or_right false y e = e

-- the test finds such a commit
pub written_found : (trim k : ℕ) (commits : List Commit) (b p : ℕ) → is_written trim k commits b p ≡ true → IsWritten trim k commits b p
written_found trim k [] b p found = cc
written_found trim k (c ∷ commits) b p found =
    go (or_cases (nat_le k trim && touches Write c.accesses b p) (is_written trim (k + 1) commits b p) found) (written_found trim (k + 1) commits b p)
  where
    further : IsWritten trim (k + 1) commits b p → IsWritten trim k (c ∷ commits) b p
    further (j, d, from, to, at, writes) =
        let one : j - k ≡ suc (j - (k + 1)) = omega (arith, from) in
        (j, d, omega (arith, from), to, ap (slice_get (c ∷ commits)) one ∙ at, writes)

    go : ((nat_le k trim && touches Write c.accesses b p) ≡ true) ⊎ (is_written trim (k + 1) commits b p ≡ true)
        → (is_written trim (k + 1) commits b p ≡ true → IsWritten trim (k + 1) commits b p) → IsWritten trim k (c ∷ commits) b p
    go (inl here) later =
        let both = and_parts (nat_le k trim) (touches Write c.accesses b p) here in
        let none : k - k ≡ 0 = omega arith in
        (k, c, omega arith, leb-true k trim both.0, ap (slice_get (c ∷ commits)) none, both.1)
    go (inr there) later = further (later there)

-- and finds one where there is one
pub written_there : (trim k : ℕ) (commits : List Commit) (b p : ℕ) → IsWritten trim k commits b p → is_written trim k commits b p ≡ true
written_there trim k [] b p (j, d, from, to, at, writes) = cc
written_there trim k (c ∷ commits) b p (j, d, from, to, at, writes) = elim (cases_eq j k) [
  | inl same ↦
      let none : j - k ≡ 0 = omega (arith, same) in
      let is : c ≡ d = same_Some c d (sym (ap (slice_get (c ∷ commits)) none) ∙ at) in
      or_left (nat_le k trim && touches Write c.accesses b p) (is_written trim (k + 1) commits b p)
      (and_from (nat_le k trim) (touches Write c.accesses b p) (le-leb k trim (omega (arith, from, to))) (ap (λ (e : Commit). touches Write e.accesses b p) is ∙ writes))
  | inr other ↦
      let one : j - k ≡ suc (j - (k + 1)) = omega (arith, from, other) in
      or_right (nat_le k trim && touches Write c.accesses b p) (is_written trim (k + 1) commits b p)
      (written_there trim (k + 1) commits b p (j, d, omega (arith, from, other), to, sym (ap (slice_get (c ∷ commits)) one) ∙ at, writes))
]

all_kept : (trim n : ℕ) (later : List Commit) (list : List Run) → trim < n → length (filter (is_kept trim n later) list) ≡ length list
all_kept trim n later [] above = refl
all_kept trim n later (run ∷ list) above =
    let kept : is_kept trim n later run ≡ true = or_left (nat_lt trim n) _ (lt-ltb trim n above) in
    rw kept (ap suc (all_kept trim n later list above))

-- above the trim number all are kept
pub none_dropped : (g : Geometry) (trim n : ℕ) (commits : List Commit) → trim < n → kept_from g trim n commits ≡ sum_by (λ c. length (runs g c.accesses)) commits
none_dropped g trim n [] above = refl
none_dropped g trim n (c ∷ commits) above =
    let here = all_kept trim n commits (runs g c.accesses) above in
    let rest = none_dropped g trim (n + 1) commits (omega (arith, above)) in
    let sum = sum_by-cons (λ (d : Commit). length (runs g d.accesses)) c commits in
    omega (arith, here, rest, sum)

pub untrimmed : (W : World) → W.trim ≡ W.base → versions W ≡ sum_by (λ c. length (runs W.geometry c.accesses)) (logged_commits W)
unfolding versions
untrimmed W same = none_dropped W.geometry W.trim (W.base + 1) (logged_commits W) (omega (arith, same))

-- a number in a range that passes a test
any_found : (test : ℕ → Bool) (a n : ℕ) → list_any test (range_with_len a n) ≡ true → (p : ℕ) × (a ≤ p) × (p < a + n) × (test p ≡ true)
any_found test a n found = grind (arith, Any-from_list_any, length-range_with_len, get_or-range_with_len)

any_there : (test : ℕ → Bool) (a n p : ℕ) → a ≤ p → p < a + n → test p ≡ true → list_any test (range_with_len a n) ≡ true
any_there test a n p from to passes =
    let below : p - a < n = omega (arith, from, to) in
    let is : get_or (range_with_len a n) (p - a) 0 ≡ p = get_or-range_with_len a n (p - a) 0 below ∙ omega (arith, from) in
    list_any_at test (range_with_len a n) (p - a) 0 (omega (arith, below, length-range_with_len a n)) (ap test is ∙ passes)

not_written : (trim k : ℕ) (commits : List Commit) (b p : ℕ) → not (is_written trim k commits b p) ≡ true → IsWritten trim k commits b p → ⊥
not_written trim k commits b p shows written = both_ways (not (is_written trim k commits b p)) (ap not (written_there trim k commits b p written)) shows

unwritten_shows : (trim k : ℕ) (commits : List Commit) (b p : ℕ) → (IsWritten trim k commits b p → ⊥) → not (is_written trim k commits b p) ≡ true
unwritten_shows trim k commits b p never = go (is_written trim k commits b p) refl
  where
    go : (t : Bool) → is_written trim k commits b p ≡ t → not t ≡ true
    go true e = absurd (never (written_found trim k commits b p e))
    go false e = refl

pub kept_shows : (trim n : ℕ) (later : List Commit) (run : Run) → is_kept trim n later run ≡ true → StillShows trim n later run
kept_shows trim n later run kept = go (or_cases (nat_lt trim n) _ kept)
  where
    go : (nat_lt trim n ≡ true) ⊎ (list_any (λ p. not (is_written trim (n + 1) later run.block p)) (range_with_len run.off (length run.bytes)) ≡ true) → StillShows trim n later run
    go (inl above) = inl (ltb-true trim n above)
    go (inr some) =
        let (p, from, to, shows) = any_found (λ p. not (is_written trim (n + 1) later run.block p)) run.off (length run.bytes) some in
        inr (p, from, to, not_written trim (n + 1) later run.block p shows)

pub shows_kept : (trim n : ℕ) (later : List Commit) (run : Run) → StillShows trim n later run → is_kept trim n later run ≡ true
shows_kept trim n later run (inl above) = or_left (nat_lt trim n) _ (lt-ltb trim n above)
shows_kept trim n later run (inr (p, from, to, never)) = search (arith, or_right, any_there, not, unwritten_shows)
