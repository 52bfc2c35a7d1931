-- Rising lists of numbers, and how often a number is in a list.
use Rattle.turn_lock.proofs.{Words.{◌≡◌, ℕ, zero, suc, ◌+◌, ◌<◌, ◌≤◌, Bool, true, false, nat_lt, cond, List, [], ◌∷◌, ◌++◌, refl, ap, sym, subst, arith, nat_tests, hit, times, RisesFrom, AllBelow, insert_rising, merge, count_up, places, dite, ℕ_discrete}, Totals.{total_append, hit_same, hit_other}}

pub below_more : (n m : ℕ) (xs : List ℕ) → n ≤ m → AllBelow n xs → AllBelow m xs
below_more n m [] le b = tt
below_more n m (x ∷ xs) le b = (omega arith, below_more n m xs le b.1)

pub below_snoc : (n : ℕ) (xs : List ℕ) → AllBelow n xs → AllBelow (n + 1) (xs ++ n ∷ [])
below_snoc n [] b = (omega arith, tt)
below_snoc n (x ∷ xs) b = (omega arith, below_snoc n xs b.1)

pub rises_less : (n m : ℕ) (xs : List ℕ) → n ≤ m → RisesFrom m xs → RisesFrom n xs
rises_less n m [] le r = tt
rises_less n m (x ∷ xs) le r = (omega arith, r.1)

pub rises_snoc : (k n : ℕ) (xs : List ℕ) → k ≤ n → RisesFrom k xs → AllBelow n xs → RisesFrom k (xs ++ n ∷ [])
rises_snoc k n [] le r b = (le, tt)
rises_snoc k n (x ∷ xs) le r b = (r.0, rises_snoc (suc x) n xs b.0 r.1 b.1)

-- no number is where all are below it, or all above it
pub times_above : (n p : ℕ) (xs : List ℕ) → n ≤ p → AllBelow n xs → times p xs ≡ 0
times_above n p [] le b = refl
times_above n p (x ∷ xs) le b = let t = times_above n p xs le b.1 in let u = hit_other x p (λ e. absurd (omega arith)) in omega arith

pub times_before : (k p : ℕ) (xs : List ℕ) → p < k → RisesFrom k xs → times p xs ≡ 0
times_before k p [] lt r = refl
times_before k p (x ∷ xs) lt r = let t = times_before (suc x) p xs (omega arith) r.1 in let u = hit_other x p (λ e. absurd (omega arith)) in omega arith

pub times_append : (n : ℕ) (xs ys : List ℕ) → times n (xs ++ ys) ≡ times n xs + times n ys
times_append n xs ys = total_append (λ x. hit x n) xs ys

insert_by : (n x : ℕ) (xs : List ℕ) (b : Bool) → nat_lt n x ≡ b → insert_rising n (x ∷ xs) ≡ cond b (n ∷ x ∷ xs) (x ∷ insert_rising n xs)
insert_by n x xs b is = rw is refl

pub times_insert : (p n : ℕ) (xs : List ℕ) → times p (insert_rising n xs) ≡ hit n p + times p xs
times_insert p n [] = refl
times_insert p n (x ∷ xs) = times_insert_by p n x xs (nat_lt n x) refl (times_insert p n xs)
  where
    times_insert_by : (p n x : ℕ) (xs : List ℕ) (b : Bool) → nat_lt n x ≡ b → times p (insert_rising n xs) ≡ hit n p + times p xs → times p (insert_rising n (x ∷ xs)) ≡ hit n p + (hit x p + times p xs)
    times_insert_by p n x xs true is ih = ap (times p) (insert_by n x xs true is)
    times_insert_by p n x xs false is ih = let t : times p (insert_rising n (x ∷ xs)) ≡ hit x p + times p (insert_rising n xs) = ap (times p) (insert_by n x xs false is) in omega arith

pub times_merge : (p : ℕ) (xs ys : List ℕ) → times p (merge xs ys) ≡ times p xs + times p ys
times_merge p [] ys = omega arith
times_merge p (x ∷ xs) ys = let t = times_merge p xs ys in let u = times_insert p x (merge xs ys) in omega arith

below_insert_by : (m n x : ℕ) (xs : List ℕ) (b : Bool) → nat_lt n x ≡ b → n < m → AllBelow m (x ∷ xs) → AllBelow m (insert_rising n xs) → AllBelow m (insert_rising n (x ∷ xs))
below_insert_by m n x xs true is lt all ih = subst (AllBelow m) (sym (insert_by n x xs true is)) (lt, all)
below_insert_by m n x xs false is lt all ih = subst (AllBelow m) (sym (insert_by n x xs false is)) (all.0, ih)

below_insert : (m n : ℕ) (xs : List ℕ) → n < m → AllBelow m xs → AllBelow m (insert_rising n xs)
below_insert m n [] lt b = (lt, tt)
below_insert m n (x ∷ xs) lt b = below_insert_by m n x xs (nat_lt n x) refl lt b (below_insert m n xs lt b.1)

pub below_merge : (m : ℕ) (xs ys : List ℕ) → AllBelow m xs → AllBelow m ys → AllBelow m (merge xs ys)
below_merge m [] ys a b = b
below_merge m (x ∷ xs) ys a b = below_insert m x (merge xs ys) a.0 (below_merge m xs ys a.1 b)

insert_rises_by : (k n x : ℕ) (xs : List ℕ) (b : Bool) → nat_lt n x ≡ b → k ≤ n → RisesFrom k (x ∷ xs) → times n (x ∷ xs) ≡ 0
    → (x < n → RisesFrom (suc x) (insert_rising n xs)) → RisesFrom k (insert_rising n (x ∷ xs))
insert_rises_by k n x xs true is le r none ih = subst (RisesFrom k) (sym (insert_by n x xs true is)) (le, (grind (arith, nat_tests), r.1))
insert_rises_by k n x xs false is le r none ih = grind (arith, hit_same, insert_by)

insert_rises : (k n : ℕ) (xs : List ℕ) → k ≤ n → RisesFrom k xs → times n xs ≡ 0 → RisesFrom k (insert_rising n xs)
insert_rises k n [] le r none = (le, tt)
insert_rises k n (x ∷ xs) le r none = insert_rises_by k n x xs (nat_lt n x) refl le r none (λ lt. insert_rises (suc x) n xs lt r.1 (omega arith))

-- two rising lists with no number in common rise together
pub merge_rises : (k : ℕ) (xs ys : List ℕ) → RisesFrom k xs → RisesFrom 0 ys → ((n : ℕ) → times n xs + times n ys ≤ 1) → RisesFrom 0 (merge xs ys)
merge_rises k [] ys a b once = b
merge_rises k (x ∷ xs) ys a b once =
    let rest = merge_rises (suc x) xs ys a.1 b (λ n. let o = once n in omega arith) in
    let t = times_merge x xs ys in
    let h = hit_same x x refl in
    let o = once x in
    insert_rises 0 x (merge xs ys) (omega arith) rest (omega arith)

-- a rising list that has each number from k on, up to k + m, is the list of these numbers
pub all_counted : (m k : ℕ) (xs : List ℕ) → RisesFrom k xs → AllBelow (k + m) xs → ((p : ℕ) → k ≤ p → p < k + m → times p xs ≡ 1) → xs ≡ count_up k m
all_counted zero k [] r b each = refl
all_counted zero k (x ∷ xs) r b each = absurd (omega arith)
all_counted (suc m) k [] r b each = let e : 0 ≡ 1 = each k (omega arith) (omega arith) in absurd (cc e)
all_counted (suc m) k (x ∷ xs) r b each = dite {C = x ∷ xs ≡ count_up k (suc m)} (ℕ_discrete x k)
    (λ same.
    let more : RisesFrom (suc k) xs = subst (λ z. RisesFrom (suc z) xs) same r.1 in
    let less : AllBelow (suc k + m) xs = below_more (k + suc m) (suc k + m) xs (omega arith) b.1 in
    let rest = all_counted m (suc k) xs more less (λ p le lt. let e = each p (omega arith) (omega arith) in let h = hit_other x p (λ q. absurd (omega arith)) in omega arith) in
    cc (same, rest))
    (λ other.
    let e = each k (omega arith) (omega arith) in
    let h = hit_other x k other in
    let none = times_before (suc x) k xs (omega arith) r.1 in absurd (omega arith))

pub all_places : (n : ℕ) (xs : List ℕ) → RisesFrom 0 xs → AllBelow n xs → ((p : ℕ) → p < n → times p xs ≡ 1) → xs ≡ places n
all_places n xs r b each = all_counted n 0 xs r (below_more n (0 + n) xs (omega arith) b) (λ p le lt. each p (omega arith))
