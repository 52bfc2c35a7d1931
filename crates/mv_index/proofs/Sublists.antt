-- What holds of versions and stays where some are dropped.
use Rattle.mv_index.proofs.Words.{◌≡◌, refl, ℕ, zero, suc, ◌<◌, ◌≤◌, Bool, true, false, cond, List, [], ◌∷◌, ◌++◌, length, map, filter, get_or, arith, AllByRecursion, Version, AreAtMost, Rise, no_version, shown_since, still_shows}

pub all_at : {X : Type 0} (P : X → Type 0) (d : X) (xs : List X) → AllByRecursion P xs → (i : ℕ) → i < length xs → P (get_or xs i d)
all_at P d [] all i below = absurd (omega arith)
all_at P d (x ∷ xs) all zero below = all.0
all_at P d (x ∷ xs) all (suc i) below = all_at P d xs all.1 i (omega arith)

pub all_of : {X : Type 0} (P : X → Type 0) (d : X) (xs : List X) → ((i : ℕ) → i < length xs → P (get_or xs i d)) → AllByRecursion P xs
all_of P d [] each = tt
all_of P d (x ∷ xs) each = (each 0 (omega arith), all_of P d xs (λ i below. each (suc i) (omega arith)))

all_cond : {X : Type 0} (P : X → Type 0) (x : X) (xs : List X) → P x → AllByRecursion P xs → (b : Bool) → AllByRecursion P (cond b (x ∷ xs) xs)
all_cond P x xs one rest true = (one, rest)
all_cond P x xs one rest false = rest

left_step : {X : Type 0} (Q : X → Type 0) (f : X → X) (x : X) (xs : List X) (b : Bool) → (b ≡ true → Q (f x)) → AllByRecursion Q (map f xs) → AllByRecursion Q (map f (cond b (x ∷ xs) xs))
left_step Q f x xs true one rest = (one refl, rest)
left_step Q f x xs false one rest = rest

-- what holds of each that passes a test, once it is changed
pub all_left : {X : Type 0} (P Q : X → Type 0) (test : X → Bool) (f : X → X) (xs : List X) → ((x : X) → test x ≡ true → P x → Q (f x)) → AllByRecursion P xs → AllByRecursion Q (map f (filter test xs))
all_left P Q test f [] each all = tt
all_left P Q test f (x ∷ xs) each all = left_step Q f x (filter test xs) (test x) (λ is. each x is all.0) (all_left P Q test f xs each all.1)

pub all_weaker : {X : Type 0} (P Q : X → Type 0) (xs : List X) → ((x : X) → P x → Q x) → AllByRecursion P xs → AllByRecursion Q xs
all_weaker P Q [] each all = tt
all_weaker P Q (x ∷ xs) each all = (each x all.0, all_weaker P Q xs each all.1)

pub all_append : {X : Type 0} (P : X → Type 0) (xs ys : List X) → AllByRecursion P xs → AllByRecursion P ys → AllByRecursion P (xs ++ ys)
all_append P [] ys first second = second
all_append P (x ∷ xs) ys first second = (first.0, all_append P xs ys first.1 second)

pub all_shown : (P : Version → Type 0) (t : ℕ) (versions : List Version) → AllByRecursion P versions → AllByRecursion P (shown_since t versions)
all_shown P t [] all = tt
all_shown P t (v ∷ versions) all = all_cond P v (shown_since t versions) all.0 (all_shown P t versions all.1) (still_shows t v versions)

abbrev pub Rises : List Version → Type 0
Rises [] = Unit {0}
Rises (v ∷ versions) = AllByRecursion (λ w. v.number ≤ w.number) versions × Rises versions

pub rises_of : (versions : List Version) → Rise versions → Rises versions
rises_of [] rise = tt
rises_of (v ∷ versions) rise = (all_of (λ w. v.number ≤ w.number) no_version versions (λ i below. rise 0 (suc i) (omega arith) (omega arith)), rises_of versions (λ i j le below. rise (suc i) (suc j) (omega arith) (omega arith)))

pub rise_of : (versions : List Version) → Rises versions → Rise versions
rise_of [] rises i j le below = absurd (omega arith)
rise_of (v ∷ versions) rises zero zero le below = omega arith
rise_of (v ∷ versions) rises zero (suc j) le below = all_at (λ w. v.number ≤ w.number) no_version versions rises.0 j (omega arith)
rise_of (v ∷ versions) rises (suc i) zero le below = absurd (omega arith)
rise_of (v ∷ versions) rises (suc i) (suc j) le below = rise_of versions rises.1 i j (omega arith) (omega arith)

rises_cond : (v : Version) (versions : List Version) → AllByRecursion (λ w. v.number ≤ w.number) versions → Rises versions → (b : Bool) → Rises (cond b (v ∷ versions) versions)
rises_cond v versions all rest true = (all, rest)
rises_cond v versions all rest false = rest

rises_shown : (t : ℕ) (versions : List Version) → Rises versions → Rises (shown_since t versions)
rises_shown t [] rises = tt
rises_shown t (v ∷ versions) rises = rises_cond v (shown_since t versions) (all_shown (λ w. v.number ≤ w.number) t versions rises.0) (rises_shown t versions rises.1) (still_shows t v versions)

pub shown_rise : (t : ℕ) (versions : List Version) → Rise versions → Rise (shown_since t versions)
shown_rise t versions rise = rise_of (shown_since t versions) (rises_shown t versions (rises_of versions rise))

pub most_shown : (t n : ℕ) (versions : List Version) → AreAtMost n versions → AreAtMost n (shown_since t versions)
most_shown t n versions most = all_at (λ v. v.number ≤ n) no_version (shown_since t versions) (all_shown (λ v. v.number ≤ n) t versions (all_of (λ v. v.number ≤ n) no_version versions most))
