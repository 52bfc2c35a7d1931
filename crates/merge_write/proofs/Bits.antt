-- Bits of a row of masks, a word at a time.
use Rattle.merge_write.proofs.Words.{rules, ◌≡◌, ◌≢◌, ◌∙◌, refl, sym, ap, ℕ, zero, suc, not, w64, ◌+◌, ◌-◌, ◌*◌, ◌/◌, ◌%◌, ◌^◌, ◌<◌, ◌≤◌, ◌==◌, ◌&&◌, ◌||◌, Bool, true, false, max, List, length, get_or, set, inl, inr, arith, bit_or, get_or-set_other, nat_le, nat_lt, cases_eq, cases_lt, nat_tests, bit_at_or, bit_at_not, bit_at_ones, bit_at_above, bit_at-lt, bit_at-trailing_zeros, bit_at_mask_inside, bit_at_mask_below, bit_at_mask_above, and-false, or_assoc, shr-shr, shr_le, bit_at, trailing_zeros, is_set}

either_bit : (a b : ℕ) → a < 2 → b < 2 → (max a b == 1) ≡ ((b == 1) || (a == 1))
either_bit a b small tiny = search (rules, arith)

-- a bit of two words together
pub joined_bit : (m n k : ℕ) → (bit_at (bit_or m n) k == 1) ≡ ((bit_at n k == 1) || (bit_at m k == 1))
joined_bit m n k = rw (bit_at_or m n k) (either_bit (bit_at m k) (bit_at n k) (bit_at-lt m k) (bit_at-lt n k))

-- the bits of a stretch of a word
stretch_bit : (low high k : ℕ) → (bit_at (2 ^ high - 2 ^ low) k == 1) ≡ (nat_le low k && nat_lt k high)
stretch_bit low high k = elim (cases_lt k low) [
  | inl before ↦
      (let no : nat_le low k ≡ false = grind (arith, nat_tests) in
      rw (bit_at_mask_below low high k before, no) refl)
  | inr from ↦
      (let yes : nat_le low k ≡ true = grind (arith, nat_tests) in
      elim (cases_lt k high) [
        | inl within ↦ (let also : nat_lt k high ≡ true = grind (arith, nat_tests) in rw (bit_at_mask_inside low high k from within, yes, also) refl)
        | inr past ↦ (let no : nat_lt k high ≡ false = grind (arith, nat_tests) in rw (bit_at_mask_above low high k past, yes, no) refl)
      ])
]

-- the row with another word joined to one of its words
abbrev pub with_word : List ℕ → (word bits : ℕ) → List ℕ
with_word masks word bits = set masks word (bit_or (get_or masks word 0) bits)

-- its bits: those of that word are either's
pub with_word_here : (masks : List ℕ) (word bits k : ℕ) → word < length masks → k / 64 ≡ word
    → is_set (with_word masks word bits) k ≡ ((bit_at bits (k % 64) == 1) || is_set masks k)
with_word_here masks word bits k inside here = search (rules, arith, joined_bit)

-- and the others stay
pub with_word_apart : (masks : List ℕ) (word bits k : ℕ) → k / 64 ≢ word → is_set (with_word masks word bits) k ≡ is_set masks k
with_word_apart masks word bits k apart = rw (get_or-set_other masks word (k / 64) (bit_or (get_or masks word 0) bits) 0 apart) refl

-- a stretch more of one word
pub with_stretch : (masks : List ℕ) (word at end k : ℕ) → word < length masks → 64 * word ≤ at → at < end → end ≤ 64 * word + 64
    → is_set (with_word masks word (2 ^ (end - 64 * word) - 2 ^ (at - 64 * word))) k ≡ ((nat_le at k && nat_lt k end) || is_set masks k)
with_stretch masks word at end k inside from some within = elim (cases_eq (k / 64) word) [
  | inl here ↦
      (let place : k % 64 ≡ k - 64 * word = omega arith in
      let left : nat_le (at - 64 * word) (k % 64) ≡ nat_le at k = rw place (grind (arith, nat_tests)) in
      let right : nat_lt (k % 64) (end - 64 * word) ≡ nat_lt k end = rw place (grind (arith, nat_tests)) in
      with_word_here masks word (2 ^ (end - 64 * word) - 2 ^ (at - 64 * word)) k inside here
      ∙ ap (λ (b : Bool). b || is_set masks k) (stretch_bit (at - 64 * word) (end - 64 * word) (k % 64) ∙ rw (left, right) refl))
  | inr apart ↦
      (let out : (nat_le at k && nat_lt k end) ≡ false = outside at end k (λ start lt. apart (omega arith)) in
      with_word_apart masks word (2 ^ (end - 64 * word) - 2 ^ (at - 64 * word)) k apart ∙ rw out refl)
]
  where
    outside : (at end k : ℕ) → (at ≤ k → k < end → ⊥) → (nat_le at k && nat_lt k end) ≡ false
    outside at end k none = elim (cases_lt k at) [
      | inl before ↦ (let no : nat_le at k ≡ false = grind (arith, nat_tests) in rw no refl)
      | inr from ↦
          (elim (cases_lt k end) [
            | inl within ↦ absurd (none from within)
            | inr past ↦ (let no : nat_lt k end ≡ false = grind (arith, nat_tests) in rw no (and-false (nat_le at k)))
          ])
    ]

-- two stretches that follow each other are one
two_stretches : (from at end k : ℕ) → from ≤ at → at ≤ end
    → ((nat_le at k && nat_lt k end) || (nat_le from k && nat_lt k at)) ≡ (nat_le from k && nat_lt k end)
two_stretches from at end k le more = grind (arith, nat_tests)

pub stretch_more : (from at end k : ℕ) (before now first : Bool) → from ≤ at → at ≤ end → now ≡ ((nat_le at k && nat_lt k end) || before)
    → before ≡ ((nat_le from k && nat_lt k at) || first) → now ≡ ((nat_le from k && nat_lt k end) || first)
stretch_more from at end k before now first le more step old = search (rules, arith, or_assoc, two_stretches)

-- all bits of the word of ones
pub all_ones : (k : ℕ) → k < 64 → (bit_at 18446744073709551615 k == 1) ≡ true
all_ones k below = rw (bit_at_ones 64 k below) refl

-- the other bits of a word
pub other_bits : (word k : ℕ) → word < 2 ^ 64 → k < 64 → (bit_at (18446744073709551615 - word) k == 1) ≡ not (bit_at word k == 1)
other_bits word k fits below = rw (bit_at_not w64 word k fits below) (flip (bit_at word k) (bit_at-lt word k))
  where
    flip : (b : ℕ) → b < 2 → ((1 - b) == 1) ≡ not (b == 1)
    flip zero small = refl
    flip (suc zero) small = refl
    flip (suc (suc b)) small = absurd (omega arith)

-- a bit of a word, seen from a place on
pub bit_from : (word from k : ℕ) → from ≤ k → bit_at (word / 2 ^ from) (k - from) ≡ bit_at word k
bit_from word from k le =
    let e : from + (k - from) ≡ k = omega arith in
    ap (λ (x : ℕ). x % 2) (shr-shr word from (k - from)) ∙ ap (bit_at word) e

-- what `trailing_zeros` says of a word that is seen from a place on and is not zero there
pub zeros_are : (word from : ℕ) → word < 2 ^ 64 → 0 < word / 2 ^ from
    → (from + trailing_zeros w64 (word / 2 ^ from) ≤ 64) × (bit_at word (from + trailing_zeros w64 (word / 2 ^ from)) ≡ 1)
    × ((k : ℕ) → from ≤ k → k < from + trailing_zeros w64 (word / 2 ^ from) → bit_at word k ≡ 0)
zeros_are word from fits some =
    let rest = word / 2 ^ from in
    let n = trailing_zeros w64 rest in
    let small : rest < 2 ^ 64 = omega (arith, shr_le word from) in
    let found = bit_at-trailing_zeros w64 rest some small in
    let e : (from + n) - from ≡ n = omega arith in
    let le : from ≤ from + n = omega arith in
    let here : bit_at word (from + n) ≡ 1 = sym (bit_from word from (from + n) le) ∙ ap (bit_at rest) e ∙ found.1 in
    let within : from + n ≤ 64 = elim (cases_lt (from + n) 64) [
      | inl lt ↦ omega arith
      | inr past ↦ (let none : bit_at word (from + n) ≡ 0 = bit_at_above word 64 (from + n) fits past in absurd (omega arith))
    ] in
    (within, here, λ k from_k lt. sym (bit_from word from k from_k) ∙ found.2 (k - from) (omega arith))
