-- Sums over lists, rising lists of numbers, and places.
use Rattle.std.specs.Prelude.{◌≡◌, ℕ, ◌+◌, ◌<◌, ◌≤◌, ◌==◌, nat_lt, zero, suc, cond, List, [], ◌∷◌, length}

-- the sum of f over the list
abbrev pub total : {A : Type 0} → (A → ℕ) → List A → ℕ
total f [] = 0
total f (x ∷ xs) = f x + total f xs

-- 1 where the two are one number, and else 0
abbrev pub hit : ℕ → ℕ → ℕ
hit x n = cond (x == n) 1 0

-- how often n is in the list
abbrev pub times : ℕ → List ℕ → ℕ
times n xs = total (λ x. hit x n) xs

-- no number is twice
abbrev pub AreDistinct : List ℕ → Type 0
AreDistinct [] = Unit {0}
AreDistinct (x ∷ xs) = (times x xs ≡ 0) × AreDistinct xs

-- each number is at least n, and above the one before it
abbrev pub RisesFrom : ℕ → List ℕ → Type 0
RisesFrom n [] = Unit {0}
RisesFrom n (x ∷ xs) = (n ≤ x) × RisesFrom (suc x) xs

abbrev pub AllBelow : ℕ → List ℕ → Type 0
AllBelow n [] = Unit {0}
AllBelow n (x ∷ xs) = (x < n) × AllBelow n xs

-- n at its place in a rising list
abbrev pub insert_rising : ℕ → List ℕ → List ℕ
insert_rising n [] = n ∷ []
insert_rising n (x ∷ xs) = cond (nat_lt n x) (n ∷ x ∷ xs) (x ∷ insert_rising n xs)

-- the numbers of both lists, rising where both rise
abbrev pub merge : List ℕ → List ℕ → List ℕ
merge [] ys = ys
merge (x ∷ xs) ys = insert_rising x (merge xs ys)

-- m numbers, from n on
abbrev pub count_up : ℕ → ℕ → List ℕ
count_up n zero = []
count_up n (suc m) = n ∷ count_up (suc n) m

-- every place of a list of this length
abbrev pub places : ℕ → List ℕ
places n = count_up 0 n

-- the longer one of two lists
abbrev pub longer : {A : Type 0} → List A → List A → List A
longer xs ys = cond (nat_lt (length xs) (length ys)) ys xs
