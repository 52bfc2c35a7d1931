-- Distinct numbers of a range are at most as many as the range has, and fewer where one of them is left out.
use Rattle.iso_hash.proofs.Words.{◌≡◌, sym, refl, ap, subst, ℕ, zero, suc, ◌+◌, ◌<◌, ◌≤◌, true, false, ◌==◌, cond, nat_eq, List, [], ◌∷◌, length, arith, inl, inr, eq-eqb, ne_eqb, AllByRecursion, IsDistinct, cases_eq, both_ways}

without : (m : ℕ) → List ℕ → List ℕ
without m [] = []
without m (x ∷ xs) = cond (x == m) (without m xs) (x ∷ without m xs)

none_left : (m : ℕ) (xs : List ℕ) → AllByRecursion (λ y. nat_eq m y ≡ false) xs → without m xs ≡ xs
unfolding without
none_left m [] all = refl
none_left m (x ∷ xs) all =
    let not : (x == m) ≡ false = ne_eqb x m (λ e. both_ways (nat_eq m x) all.0 (eq-eqb m x (sym e))) in
    rw not (ap (λ r. x ∷ r) (none_left m xs all.1))

all_without : (P : ℕ → Type 0) (m : ℕ) (xs : List ℕ) → AllByRecursion P xs → AllByRecursion P (without m xs)
unfolding without
all_without P m [] all = tt
all_without P m (x ∷ xs) all = elim (x == m) as (λ t. AllByRecursion P (cond t (without m xs) (x ∷ without m xs))) [
  | true ↦ all_without P m xs all.1
  | false ↦ (all.0, all_without P m xs all.1)
]

distinct_without : (m : ℕ) (xs : List ℕ) → IsDistinct nat_eq xs → IsDistinct nat_eq (without m xs)
unfolding without IsDistinct
distinct_without m [] apart = apart
distinct_without m (x ∷ xs) apart = elim (x == m) as (λ t. IsDistinct nat_eq (cond t (without m xs) (x ∷ without m xs))) [
  | true ↦ distinct_without m xs apart.1
  | false ↦ (all_without (λ y. nat_eq x y ≡ false) m xs apart.0, distinct_without m xs apart.1)
]

length_without : (m : ℕ) (xs : List ℕ) → IsDistinct nat_eq xs → length xs ≤ length (without m xs) + 1
unfolding without IsDistinct
length_without m [] apart = omega arith
length_without m (x ∷ xs) apart = elim (cases_eq x m) [
  | inl here ↦
      (let test : (x == m) ≡ true = eq-eqb x m here in
      let all : AllByRecursion (λ y. nat_eq m y ≡ false) xs = subst (λ (k : ℕ). AllByRecursion (λ y. nat_eq k y ≡ false) xs) here apart.0 in
      let same : length (without m xs) ≡ length xs = ap length (none_left m xs all) in
      rw test (omega arith))
  | inr other ↦
      (let test : (x == m) ≡ false = ne_eqb x m other in
      let rest = length_without m xs apart.1 in
      rw test (omega arith))
]

below_without : (a n : ℕ) (xs : List ℕ) → AllByRecursion (λ k. (a ≤ k) × (k < a + suc n)) xs → AllByRecursion (λ k. (a ≤ k) × (k < a + n)) (without (a + n) xs)
unfolding without
below_without a n [] all = tt
below_without a n (x ∷ xs) all = elim (cases_eq x (a + n)) [
  | inl here ↦ (let test : (x == a + n) ≡ true = eq-eqb x (a + n) here in rw test (below_without a n xs all.1))
  | inr other ↦ (let test : (x == a + n) ≡ false = ne_eqb x (a + n) other in rw test ((all.0.0, omega (arith, all.0.1)), below_without a n xs all.1))
]

pub at_most : (a n : ℕ) (xs : List ℕ) → IsDistinct nat_eq xs → AllByRecursion (λ k. (a ≤ k) × (k < a + n)) xs → length xs ≤ n
at_most a zero [] apart all = omega arith
at_most a zero (x ∷ xs) apart all = absurd (omega (arith, all.0.0, all.0.1))
at_most a (suc n) xs apart all =
    let rest = at_most a n (without (a + n) xs) (distinct_without (a + n) xs apart) (below_without a n xs all) in
    omega (arith, length_without (a + n) xs apart)

-- fewer, where x of the range is not among them
pub fewer : (a n x : ℕ) (xs : List ℕ) → IsDistinct nat_eq xs → AllByRecursion (λ k. (a ≤ k) × (k < a + n)) xs → AllByRecursion (λ y. nat_eq x y ≡ false) xs → a ≤ x → x < a + n → length xs < n
unfolding IsDistinct
fewer a n x xs apart all other low high = at_most a n (x ∷ xs) (other, apart) ((low, high), all)
