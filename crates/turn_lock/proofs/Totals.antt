-- Sums over a list in which one element changes.
use Rattle.turn_lock.proofs.Words.{◌≡◌, ℕ, zero, suc, ◌+◌, ◌≤◌, ◌≢◌, Bool, true, false, ◌==◌, List, [], ◌∷◌, ◌++◌, set, refl, ap, sym, arith, nat_tests, total, hit, some, some-injective, some-ne-none, get_elem?}

module _ {A : Type 0} (f : A → ℕ) where
  pub total_set : (l : List A) (i : ℕ) (v w : A) → get_elem? l i ≡ some v → total f (set l i w) + f v ≡ total f l + f w
  total_set [] i v w e = absurd (some-ne-none v (sym e))
  total_set (x ∷ xs) zero v w e = let t : f x ≡ f v = ap f (some-injective x v e) in omega arith
  total_set (x ∷ xs) (suc i) v w e = let t = total_set xs i v w e in omega arith

  pub total_at : (l : List A) (i : ℕ) (v : A) → get_elem? l i ≡ some v → f v ≤ total f l
  total_at [] i v e = absurd (some-ne-none v (sym e))
  total_at (x ∷ xs) zero v e = let t : f x ≡ f v = ap f (some-injective x v e) in omega arith
  total_at (x ∷ xs) (suc i) v e = let t = total_at xs i v e in omega arith

  pub total_two : (l : List A) (i j : ℕ) (v w : A) → j ≢ i → get_elem? l i ≡ some v → get_elem? l j ≡ some w → f v + f w ≤ total f l
  total_two [] i j v w ne e d = absurd (some-ne-none v (sym e))
  total_two (x ∷ xs) zero zero v w ne e d = absurd (ne refl)
  total_two (x ∷ xs) zero (suc j) v w ne e d = let t : f x ≡ f v = ap f (some-injective x v e) in let u = total_at xs j w d in omega arith
  total_two (x ∷ xs) (suc i) zero v w ne e d = let t : f x ≡ f w = ap f (some-injective x w d) in let u = total_at xs i v e in omega arith
  total_two (x ∷ xs) (suc i) (suc j) v w ne e d = let u = total_two xs i j v w (λ q. ne (ap suc q)) e d in omega arith

  pub total_append : (xs ys : List A) → total f (xs ++ ys) ≡ total f xs + total f ys
  total_append [] ys = omega arith
  total_append (x ∷ xs) ys = let t = total_append xs ys in omega arith

  pub total_zero : (l : List A) → ((i : ℕ) (v : A) → get_elem? l i ≡ some v → f v ≡ 0) → total f l ≡ 0
  total_zero [] each = refl
  total_zero (x ∷ xs) each = let t = total_zero xs (λ i. each (suc i)) in let u = each zero x refl in omega arith

  -- where all others have nothing, one has the whole
  pub total_only : (l : List A) (i : ℕ) (v : A) → get_elem? l i ≡ some v → ((j : ℕ) (w : A) → j ≢ i → get_elem? l j ≡ some w → f w ≡ 0) → total f l ≡ f v
  total_only [] i v e each = absurd (some-ne-none v (sym e))
  total_only (x ∷ xs) zero v e each =
      let t : f x ≡ f v = ap f (some-injective x v e) in
      let u = total_zero xs (λ j w d. each (suc j) w (λ q. absurd (omega arith)) d) in omega arith
  total_only (x ∷ xs) (suc i) v e each =
      let t = each zero x (λ q. absurd (omega arith)) refl in
      let u = total_only xs i v e (λ j w ne d. each (suc j) w (λ q. ne (omega arith)) d) in omega arith

module _ {A : Type 0} (f g : A → ℕ) where
  pub total_le : (l : List A) → ((i : ℕ) (v : A) → get_elem? l i ≡ some v → f v ≤ g v) → total f l ≤ total g l
  total_le [] each = omega arith
  total_le (x ∷ xs) each = let t = total_le xs (λ i. each (suc i)) in let u = each zero x refl in omega arith

  -- the same, and at one place the difference is known
  pub total_le_at : (l : List A) (i : ℕ) (v : A) → get_elem? l i ≡ some v → ((i : ℕ) (v : A) → get_elem? l i ≡ some v → f v ≤ g v) → total f l + g v ≤ total g l + f v
  total_le_at [] i v e each = absurd (some-ne-none v (sym e))
  total_le_at (x ∷ xs) zero v e each =
      let t = total_le xs (λ i. each (suc i)) in
      let u : f x ≡ f v = ap f (some-injective x v e) in
      let w : g x ≡ g v = ap g (some-injective x v e) in omega arith
  total_le_at (x ∷ xs) (suc i) v e each = let t = total_le_at xs i v e (λ i. each (suc i)) in let u = each zero x refl in omega arith

hit_by : (x n : ℕ) (b : Bool) → (x == n) ≡ b → x ≡ n → hit x n ≡ 1
hit_by x n true is e = rw is refl
hit_by x n false is e = absurd (grind (arith, nat_tests))

miss_by : (x n : ℕ) (b : Bool) → (x == n) ≡ b → x ≢ n → hit x n ≡ 0
miss_by x n true is ne = absurd (grind (arith, nat_tests))
miss_by x n false is ne = rw is refl

pub hit_same : (x n : ℕ) → x ≡ n → hit x n ≡ 1
hit_same x n e = hit_by x n (x == n) refl e

pub hit_other : (x n : ℕ) → x ≢ n → hit x n ≡ 0
hit_other x n ne = miss_by x n (x == n) refl ne
