-- The steps of a loop that tries numbers in turn.
use Rattle.iso_alloc.proofs.Words.{◌≡◌, sym, refl, ap, subst, ℕ, zero, suc, ◌+◌, ◌-◌, ◌<◌, ◌≤◌, Bool, true, false, ◌&&◌, cond, Option, Some, None, arith, ◌∙◌, inl, inr, and_parts, cases_eq, all_from, first_from, free_count, map_bit, List, cases_Bool, and_from, lowest_free, map_mark, map_bytes, bit_place, bit_at, bytes_in, get_or-take, not, ◌%◌, ◌==◌}

-- a step where i < n, and the end where n ≤ i; r is what the whole search answers
pub all_step : (test : ℕ → Bool) (i n : ℕ) → i < n → all_from test i (n - i) ≡ (test i && all_from test (i + 1) (n - (i + 1)))
all_step test i n below = let e : n - i ≡ suc (n - (i + 1)) = omega arith in rw e refl

pub first_step : (test : ℕ → Bool) (i n : ℕ) → i < n → first_from test i (n - i) ≡ cond (test i) (Some i) (first_from test (i + 1) (n - (i + 1)))
first_step test i n below = let e : n - i ≡ suc (n - (i + 1)) = omega arith in rw e refl

pub all_end : (test : ℕ → Bool) (i n : ℕ) → n ≤ i → all_from test i (n - i) ≡ true
all_end test i n past = let e : n - i ≡ 0 = omega arith in rw e refl

pub first_end : (test : ℕ → Bool) (i n : ℕ) → n ≤ i → first_from test i (n - i) ≡ None
first_end test i n past = let e : n - i ≡ 0 = omega arith in rw e refl

pub all_fails : (test : ℕ → Bool) (i n : ℕ) (r : Bool) → i < n → all_from test i (n - i) ≡ r → test i ≡ false → r ≡ false
all_fails test i n r below so fails = let e = all_step test i n below in sym so ∙ (rw fails at e)

pub all_goes_on : (test : ℕ → Bool) (i n : ℕ) (r : Bool) → i < n → all_from test i (n - i) ≡ r → test i ≡ true → all_from test (i + 1) (n - (i + 1)) ≡ r
all_goes_on test i n r below so passes = let e = all_step test i n below in sym (rw passes at e) ∙ so

pub first_found : (test : ℕ → Bool) (i n : ℕ) (r : Option ℕ) → i < n → first_from test i (n - i) ≡ r → test i ≡ true → r ≡ Some i
first_found test i n r below so passes = let e = first_step test i n below in sym so ∙ (rw passes at e)

pub first_goes_on : (test : ℕ → Bool) (i n : ℕ) (r : Option ℕ) → i < n → first_from test i (n - i) ≡ r → test i ≡ false → first_from test (i + 1) (n - (i + 1)) ≡ r
first_goes_on test i n r below so fails = let e = first_step test i n below in sym (rw fails at e) ∙ so

-- what all pass, each passes
pub all_at : (test : ℕ → Bool) (from n i : ℕ) → all_from test from n ≡ true → from ≤ i → i < from + n → test i ≡ true
all_at test from zero i all low high = absurd (omega arith)
all_at test from (suc n) i all low high =
    let parts = and_parts (test from) (all_from test (from + 1) n) all in
    elim (cases_eq from i) [
      | inl here ↦ ap test (sym here) ∙ parts.0
      | inr later ↦ all_at test (from + 1) n i parts.1 (omega arith) (omega arith)
    ]

-- one block more is counted
pub count_on : (map : List ℕ) (i n c d total : ℕ) → i < n → c + free_count map i (n - i) ≡ total → d ≡ c + cond (map_bit map i) 0 1 → d + free_count map (i + 1) (n - (i + 1)) ≡ total
count_on map i n c d total below so here =
    let e : n - i ≡ suc (n - (i + 1)) = omega arith in
    let step : free_count map i (n - i) ≡ cond (map_bit map i) 0 1 + free_count map (i + 1) (n - (i + 1)) = rw e refl in
    omega arith

-- m blocks whose bits are all b are counted at once
pub count_run : (map : List ℕ) (i m n c d total : ℕ) (b : Bool) → i + m ≤ n → c + free_count map i (n - i) ≡ total → ((k : ℕ) → i ≤ k → k < i + m → map_bit map k ≡ b) → d ≡ c + cond b 0 m
    → d + free_count map (i + m) (n - (i + m)) ≡ total
count_run map i zero n c d total b fits so alike here =
    let e : i + 0 ≡ i = omega arith in
    let none : ◌≡◌ {A = ℕ} (cond b 0 0) 0 = elim b as (λ t. ◌≡◌ {A = ℕ} (cond t 0 0) 0) [ true ↦ refl | false ↦ refl ] in
    let same : d ≡ c = omega (arith, none) in
    subst (λ (j : ℕ). d + free_count map j (n - j) ≡ total) (sym e) (ap (λ (x : ℕ). x + free_count map i (n - i)) same ∙ so)
count_run map i (suc m) n c d total b fits so alike here =
    let next : i + suc m ≡ i + 1 + m = omega arith in
    let one : ◌≡◌ {A = ℕ} (cond (map_bit map i) 0 1) (cond b 0 1) = ap {B = ℕ} (λ (t : Bool). cond t 0 1) (alike i (omega arith) (omega arith)) in
    let more : ◌≡◌ {A = ℕ} (cond b 0 (suc m)) (cond b 0 1 + cond b 0 m) = elim b as (λ t. ◌≡◌ {A = ℕ} (cond t 0 (suc m)) (cond t 0 1 + cond t 0 m)) [ true ↦ refl | false ↦ omega arith ] in
    subst (λ (j : ℕ). d + free_count map j (n - j) ≡ total) (sym next) (count_run map (i + 1) m n (c + cond b 0 1) d total b (omega arith)
    (count_on map i n c (c + cond b 0 1) total (omega arith) so (ap (λ (x : ℕ). c + x) (sym one))) (λ k low high. alike k (omega arith) (omega arith)) (omega (arith, here, more)))

-- a search passes m numbers that fail
pub first_run : (test : ℕ → Bool) (i m n : ℕ) (r : Option ℕ) → i + m ≤ n → first_from test i (n - i) ≡ r → ((k : ℕ) → i ≤ k → k < i + m → test k ≡ false) → first_from test (i + m) (n - (i + m)) ≡ r
first_run test i zero n r fits so fails = let e : i + 0 ≡ i = omega arith in subst (λ (j : ℕ). first_from test j (n - j) ≡ r) (sym e) so
first_run test i (suc m) n r fits so fails =
    let next : i + suc m ≡ i + 1 + m = omega arith in
    subst (λ (j : ℕ). first_from test j (n - j) ≡ r) (sym next) (first_run test (i + 1) m n r (omega arith) (first_goes_on test i n r (omega arith) so (fails i (omega arith) (omega arith))) (λ k low high. fails k (omega arith) (omega arith)))

-- what is found where the first number passes
first_here : (test : ℕ → Bool) (i n j : ℕ) → test i ≡ true → first_from test i (suc n) ≡ Some j → i ≡ j
first_here test i n j pass e = let here : Some i ≡ Some j = sym (rw pass refl) ∙ e in cc

-- what is found passes the test, and is not below the first number that was tried
pub first_passes : (test : ℕ → Bool) (i n j : ℕ) → first_from test i n ≡ Some j → test j ≡ true
first_passes test i zero j e = cc
first_passes test i (suc n) j e = elim (cases_Bool (test i)) [
  | inl pass ↦ ap test (sym (first_here test i n j pass e)) ∙ pass
  | inr fail ↦ first_passes test (i + 1) n j (sym (rw fail refl) ∙ e)
]

pub first_low : (test : ℕ → Bool) (i n j : ℕ) → first_from test i n ≡ Some j → i ≤ j
first_low test i zero j e = cc
first_low test i (suc n) j e = elim (cases_Bool (test i)) [
  | inl pass ↦ omega (arith, first_here test i n j pass e)
  | inr fail ↦ (let ih = first_low test (i + 1) n j (sym (rw fail refl) ∙ e) in omega arith)
]

-- tests that agree on the numbers find the same
first_alike : (test other : ℕ → Bool) (i n : ℕ) → ((j : ℕ) → i ≤ j → j < i + n → test j ≡ other j) → first_from test i n ≡ first_from other i n
first_alike test other i zero same = refl
first_alike test other i (suc n) same =
    ap (λ t. cond t (Some i) (first_from test (i + 1) n)) (same i (omega arith) (omega arith))
    ∙ ap (λ rest. cond (other i) (Some i) rest) (first_alike test other (i + 1) n (λ j low high. same j (omega arith) (omega arith)))

-- the lowest free block of the bytes of the map is that of the block
pub lowest_alike : (blocks : ℕ) (block : List ℕ) (from n : ℕ) → from + n ≤ blocks → lowest_free (bytes_in (map_mark blocks) block) from n ≡ lowest_free block from n
lowest_alike blocks block from n inside = first_alike _ _ from n (λ j low high.
    ap (λ (x : ℕ). not (bit_at x (j % 8) == 1)) (get_or-take (64 + map_bytes blocks) block (bit_place j) 0 (omega arith)))

-- what passes at each number
pub all_pass : (test : ℕ → Bool) (i n : ℕ) → ((j : ℕ) → i ≤ j → j < i + n → test j ≡ true) → all_from test i n ≡ true
all_pass test i zero each = refl
all_pass test i (suc n) each = and_from (test i) (all_from test (i + 1) n) (each i (omega arith) (omega arith)) (all_pass test (i + 1) n (λ j low high. each j (omega arith) (omega arith)))
