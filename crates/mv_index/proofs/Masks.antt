-- Bytes of a stretch, and the first of them that was not seen.
use Rattle.mv_index.proofs.Words.{◌≡◌, inl, inr, ◌∙◌, sym, ap, ℕ, zero, suc, ◌+◌, ◌-◌, ◌<◌, ◌≤◌, Bool, true, false, ◌&&◌, ◌||◌, nat_le, nat_lt, arith, list_any, range_with_len, le-leb, lt-leb, cases_lt, and-false, nat_tests, or-true, in_bytes}

pub in_is : (off len p : ℕ) → off ≤ p → p < off + len → in_bytes off len p ≡ true
in_is off len p from to = λ i. le-leb off p from i && le-leb (suc p) (off + len) to i

pub in_under : (off len p : ℕ) → p < off → in_bytes off len p ≡ false
in_under off len p lt = ap (λ (b : Bool). b && nat_lt p (off + len)) (lt-leb off p lt)

pub in_over : (off len p : ℕ) → off + len ≤ p → in_bytes off len p ≡ false
in_over off len p le = ap (λ (b : Bool). nat_le off p && b) (lt-leb (suc p) (off + len) (omega (arith, le))) ∙ and-false (nat_le off p)

pub in_split : (off at stop p : ℕ) → off ≤ at → at ≤ stop → in_bytes off (stop - off) p ≡ (in_bytes at (stop - at) p || in_bytes off (at - off) p)
in_split off at stop p first second = grind (arith, nat_tests)

-- whether a test holds of one of the numbers, by the first of which it holds
pub any_from : (f : ℕ → Bool) (a n first : ℕ) → a ≤ first → first ≤ a + n → ((k : ℕ) → a ≤ k → k < first → f k ≡ false) → (first < a + n → f first ≡ true) → nat_lt first (a + n) ≡ list_any f (range_with_len a n)
any_from f a zero first from to none found = lt-leb (suc first) (a + 0) (omega arith)
any_from f a (suc n) first from to none found = elim (cases_lt a first) [
  | inl lt ↦
      (let e : a + suc n ≡ a + 1 + n = omega arith in
      ap (nat_lt first) e
      ∙ any_from f (a + 1) n first (omega arith) (omega arith) (λ k le. none k (omega arith)) (λ less. found (omega arith))
      ∙ ap (λ (b : Bool). b || list_any f (range_with_len (a + 1) n)) (sym (none a (omega arith) lt)))
  | inr le ↦
      (let same : a ≡ first = omega arith in
      le-leb (suc first) (a + suc n) (omega arith) ∙ ap (λ (b : Bool). b || list_any f (range_with_len (a + 1) n)) (sym (ap f same ∙ found (omega arith))))
]

-- a stretch that is marked may begin at the first byte that was not
pub widened : (off first end p : ℕ) (seen : Bool) → off ≤ first → (off ≤ p → p < first → seen ≡ true) → ((nat_le first p && nat_lt p end) || seen) ≡ ((nat_le off p && nat_lt p end) || seen)
widened off first end p true le done = or-true (nat_le first p && nat_lt p end) ∙ sym (or-true (nat_le off p && nat_lt p end))
widened off first end p false le done = grind arith
