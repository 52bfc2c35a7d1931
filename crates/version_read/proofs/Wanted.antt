-- How many bytes are still wanted.
use Rattle.version_read.proofs.Words.{◌≡◌, inl, inr, ◌∙◌, sym, refl, ap, ℕ, zero, suc, ◌+◌, ◌-◌, ◌<◌, ◌≤◌, Bool, true, false, ◌||◌, not, cond, List, count_by, arith, range_with_len, cases_lt, sum_by-cons, is_seen, in_bytes, in_is, in_over, in_under}

-- how many of the n bytes from a on were not seen
abbrev pub unseen : List ℕ → (a n : ℕ) → ℕ
unseen seen a n = count_by (λ p. not (is_seen seen p)) (range_with_len a n)

abbrev one : Bool → ℕ
one seen = cond (not seen) 1 0

pub unseen_next : (seen : List ℕ) (a n : ℕ) → unseen seen a (suc n) ≡ cond (not (is_seen seen a)) 1 0 + unseen seen (a + 1) n
unseen_next seen a n = sum_by-cons (λ p. cond (not (is_seen seen p)) 1 0) a (range_with_len (a + 1) n)

pub unseen_split : (seen : List ℕ) (a n m : ℕ) → unseen seen a (n + m) ≡ unseen seen a n + unseen seen (a + n) m
unseen_split seen a zero m = grind arith
unseen_split seen a (suc n) m =
    let e : suc n + m ≡ suc (n + m) = omega arith in
    let s : a + 1 + n ≡ a + suc n = omega arith in
    let rest : unseen seen (a + 1) (n + m) ≡ unseen seen (a + 1) n + unseen seen (a + suc n) m = unseen_split seen (a + 1) n m ∙ ap (λ (k : ℕ). unseen seen (a + 1) n + unseen seen k m) s in
    ap (unseen seen a) e ∙ omega (arith, unseen_next seen a (n + m), unseen_next seen a n, rest)

-- where all of them were seen, or none
pub unseen_none : (seen : List ℕ) (a n : ℕ) → ((p : ℕ) → a ≤ p → p < a + n → is_seen seen p ≡ true) → unseen seen a n ≡ 0
unseen_none seen a zero all = refl
unseen_none seen a (suc n) all =
    let first : cond (not (is_seen seen a)) 1 0 ≡ 0 = ap one (all a (omega arith) (omega arith)) in
    let rest = unseen_none seen (a + 1) n (λ p from to. all p (omega (arith, from)) (omega (arith, to))) in
    omega (arith, unseen_next seen a n, first, rest)

pub unseen_all : (seen : List ℕ) (a n : ℕ) → ((p : ℕ) → a ≤ p → p < a + n → is_seen seen p ≡ false) → unseen seen a n ≡ n
unseen_all seen a zero all = refl
unseen_all seen a (suc n) all =
    let first : cond (not (is_seen seen a)) 1 0 ≡ 1 = ap one (all a (omega arith) (omega arith)) in
    let rest = unseen_all seen (a + 1) n (λ p from to. all p (omega (arith, from)) (omega (arith, to))) in
    omega (arith, unseen_next seen a n, first, rest)

pub unseen_same : (old new : List ℕ) (a n : ℕ) → ((p : ℕ) → a ≤ p → p < a + n → is_seen new p ≡ is_seen old p) → unseen new a n ≡ unseen old a n
unseen_same old new a zero same = refl
unseen_same old new a (suc n) same =
    let first : cond (not (is_seen new a)) 1 0 ≡ cond (not (is_seen old a)) 1 0 = ap one (same a (omega arith) (omega arith)) in
    let rest = unseen_same old new (a + 1) n (λ p from to. same p (omega (arith, from)) (omega (arith, to))) in
    omega (arith, unseen_next new a n, unseen_next old a n, first, rest)

-- none is wanted: each was seen
none_step : (b : Bool) (n : ℕ) → cond (not b) 1 0 + n ≡ 0 → b ≡ true
none_step true n is = refl
none_step false n is = absurd (omega (arith, is))

pub all_seen : (seen : List ℕ) (a n p : ℕ) → unseen seen a n ≡ 0 → a ≤ p → p < a + n → is_seen seen p ≡ true
all_seen seen a zero p is from to = absurd (omega (arith, from, to))
all_seen seen a (suc n) p is from to =
    let next : cond (not (is_seen seen a)) 1 0 + unseen seen (a + 1) n ≡ 0 = sym (unseen_next seen a n) ∙ is in
    elim (cases_lt a p) [
      | inl lt ↦ all_seen seen (a + 1) n p (omega (arith, next)) (omega (arith, lt)) (omega (arith, to))
      | inr le ↦ (let e : p ≡ a = omega (arith, le, from) in ap (is_seen seen) e ∙ none_step (is_seen seen a) (unseen seen (a + 1) n) next)
    ]

pub unseen_le : (seen : List ℕ) (a n : ℕ) → unseen seen a n ≤ n
unseen_le seen a zero = omega arith
unseen_le seen a (suc n) = le_step (is_seen seen a) (unseen seen a (suc n)) (unseen seen (a + 1) n) n (unseen_next seen a n) (unseen_le seen (a + 1) n)
  where
    le_step : (b : Bool) (whole rest n : ℕ) → whole ≡ cond (not b) 1 0 + rest → rest ≤ n → whole ≤ suc n
    le_step true whole rest n is le = omega (arith, is, le)
    le_step false whole rest n is le = omega (arith, is, le)

-- after a part of the bytes is marked the others are wanted
pub unseen_marked : (old new : List ℕ) (size off len : ℕ) → off + len ≤ size → ((p : ℕ) → p < size → is_seen new p ≡ (in_bytes off len p || is_seen old p))
    → unseen new 0 size + unseen old off len ≡ unseen old 0 size
unseen_marked old new size off len fits marked =
    let start : 0 + off ≡ off = omega arith in
    let whole : off + (len + (size - (off + len))) ≡ size = omega (arith, fits) in
    let olds : unseen old 0 size ≡ unseen old 0 off + (unseen old off len + unseen old (off + len) (size - (off + len))) =
    ap (unseen old 0) (sym whole) ∙ unseen_split old 0 off (len + (size - (off + len))) ∙ ap (λ (k : ℕ). unseen old 0 off + unseen old k (len + (size - (off + len)))) start
    ∙ ap (λ (k : ℕ). unseen old 0 off + k) (unseen_split old off len (size - (off + len))) in
    let news : unseen new 0 size ≡ unseen new 0 off + (unseen new off len + unseen new (off + len) (size - (off + len))) =
    ap (unseen new 0) (sym whole) ∙ unseen_split new 0 off (len + (size - (off + len))) ∙ ap (λ (k : ℕ). unseen new 0 off + unseen new k (len + (size - (off + len)))) start
    ∙ ap (λ (k : ℕ). unseen new 0 off + k) (unseen_split new off len (size - (off + len))) in
    let front : unseen new 0 off ≡ unseen old 0 off = unseen_same old new 0 off (λ p from to. marked p (omega (arith, to, fits)) ∙ ap (λ (b : Bool). b || is_seen old p) (in_under off len p (omega (arith, to)))) in
    let middle : unseen new off len ≡ 0 = unseen_none new off len (λ p from to. marked p (omega (arith, to, fits)) ∙ ap (λ (b : Bool). b || is_seen old p) (in_is off len p from to)) in
    let back : unseen new (off + len) (size - (off + len)) ≡ unseen old (off + len) (size - (off + len)) = unseen_same old new (off + len) (size - (off + len)) (λ p from to. marked p (omega (arith, to, fits)) ∙ ap (λ (b : Bool). b || is_seen old p) (in_over off len p from)) in
    omega (arith, olds, news, front, middle, back)
