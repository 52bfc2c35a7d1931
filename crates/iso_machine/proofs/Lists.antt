-- The list of live transactions: one changes, leaves, or begins.
use Rattle.iso_machine.proofs.Words.{◌≡◌, ◌∙◌, inl, inr, sym, refl, ap, ℕ, zero, suc, ◌<◌, List, [], ◌∷◌, length, get_or, set, map, arith, ne_eqb, eq-eqb, AllByRecursion, remove, Live, with, without, AreDistinct, AreTwo, IsAmong, bare, without_accesses, Bool, true, false, cond, ◌==◌, Attached, live_of}

pub two_at : (t : Live) (live : List Attached) (i : ℕ) (d : Attached) → AllByRecursion (AreTwo t) (map live_of live) → i < length live → AreTwo t (live_of (get_or live i d))
two_at t [] i d all inside = absurd (omega (arith, inside))
two_at t (a ∷ live) zero d all inside = all.0
two_at t (a ∷ live) (suc i) d all inside = two_at t live i d all.1 (omega (arith, inside))

-- transactions of other numbers stay
pub with_others : (t u : Live) (live : List Live) → AllByRecursion (AreTwo t) live → u.number ≡ t.number → with u live ≡ live
with_others t u [] all same = refl
with_others t u (v ∷ live) all same =
    rw (ne_eqb v.number u.number (λ e. all.0.numbers (sym same ∙ sym e))) (ap (λ (l : List Live). v ∷ l) (with_others t u live all.1 same))

pub without_others : (t : Live) (n : ℕ) (live : List Live) → AllByRecursion (AreTwo t) live → n ≡ t.number → without n live ≡ live
without_others t n [] all same = refl
without_others t n (v ∷ live) all same =
    rw (ne_eqb v.number n (λ e. all.0.numbers (sym same ∙ sym e))) (ap (λ (l : List Live). v ∷ l) (without_others t n live all.1 same))

-- one of them changes
pub with_at : (live : List Attached) (i : ℕ) (d b : Attached) → AreDistinct (map live_of live) → i < length live → b.tx ≡ (get_or live i d).tx
    → with (live_of b) (map live_of live) ≡ map live_of (set live i b)
with_at [] i d b distinct inside same = absurd (omega (arith, inside))
with_at (a ∷ live) zero d b distinct inside same =
    rw (eq-eqb a.tx b.tx (sym same)) (ap (λ (l : List Live). live_of b ∷ l) (with_others (live_of a) (live_of b) (map live_of live) distinct.0 same))
with_at (a ∷ live) (suc i) d b distinct inside same =
    let two = two_at (live_of a) live i d distinct.0 (omega (arith, inside)) in
    rw (ne_eqb a.tx b.tx (λ e. two.numbers (e ∙ same))) (ap (λ (l : List Live). live_of a ∷ l) (with_at live i d b distinct.1 (omega (arith, inside)) same))

-- one of them leaves
pub without_at : (live : List Attached) (i : ℕ) (d : Attached) → AreDistinct (map live_of live) → i < length live
    → without (get_or live i d).tx (map live_of live) ≡ map live_of (remove live i)
without_at [] i d distinct inside = absurd (omega (arith, inside))
without_at (a ∷ live) zero d distinct inside = rw (eq-eqb a.tx a.tx refl) (without_others (live_of a) a.tx (map live_of live) distinct.0 refl)
without_at (a ∷ live) (suc i) d distinct inside =
    let two = two_at (live_of a) live i d distinct.0 (omega (arith, inside)) in
    rw (ne_eqb a.tx (get_or live i d).tx two.numbers) (ap (λ (l : List Live). live_of a ∷ l) (without_at live i d distinct.1 (omega (arith, inside))))

pub all_set : {X : Type 0} (P : X → Type 0) (xs : List X) (i : ℕ) (y : X) → AllByRecursion P xs → P y → AllByRecursion P (set xs i y)
all_set P [] i y all is = tt
all_set P (x ∷ xs) zero y all is = (is, all.1)
all_set P (x ∷ xs) (suc i) y all is = (all.0, all_set P xs i y all.1 is)

pub all_remove : {X : Type 0} (P : X → Type 0) (xs : List X) (i : ℕ) → AllByRecursion P xs → AllByRecursion P (remove xs i)
all_remove P [] zero all = tt
all_remove P [] (suc i) all = tt
all_remove P (x ∷ xs) zero all = all.1
all_remove P (x ∷ xs) (suc i) all = (all.0, all_remove P xs i all.1)

-- one that leaves may have changed before
pub remove_set : {X : Type 0} (xs : List X) (i : ℕ) (y : X) → remove (set xs i y) i ≡ remove xs i
remove_set [] zero y = refl
remove_set [] (suc i) y = refl
remove_set (x ∷ xs) zero y = refl
remove_set {X = X} (x ∷ xs) (suc i) y = ap (λ (l : List X). x ∷ l) (remove_set xs i y)

pub all_at : {X : Type 0} (P : X → Type 0) (xs : List X) (i : ℕ) (d : X) → AllByRecursion P xs → i < length xs → P (get_or xs i d)
all_at P [] i d all inside = absurd (omega (arith, inside))
all_at P (x ∷ xs) zero d all inside = all.0
all_at P (x ∷ xs) (suc i) d all inside = all_at P xs i d all.1 (omega (arith, inside))

pub among_at : (live : List Attached) (i : ℕ) (d : Attached) → i < length live → IsAmong (live_of (get_or live i d)) (map live_of live)
among_at [] i d inside = absurd (omega (arith, inside))
among_at (a ∷ live) zero d inside = inl refl
among_at (a ∷ live) (suc i) d inside = inr (among_at live i d (omega (arith, inside)))

-- but for accesses and places they stay
pub bare_with : (live : List Attached) (i : ℕ) (d b : Attached) → bare (live_of b) ≡ bare (live_of (get_or live i d))
    → map bare (map live_of (set live i b)) ≡ map bare (map live_of live)
bare_with [] i d b same = refl
bare_with (a ∷ live) zero d b same = ap (λ (t : Live). t ∷ map bare (map live_of live)) same
bare_with (a ∷ live) (suc i) d b same = ap (λ (l : List Live). bare (live_of a) ∷ l) (bare_with live i d b same)

-- an item of a list that is not empty
pub pick : {X : Type 0} (xs : List X) (i : ℕ) → i < length xs → X
pick [] i inside = absurd (omega (arith, inside))
pick (x ∷ xs) i inside = x

-- other accesses of one transaction change nothing else
pub accesses_apart : (t u : Live) (live : List Live) → without_accesses u ≡ without_accesses t → map without_accesses (with u live) ≡ map without_accesses (with t live)
accesses_apart t u [] same = refl
accesses_apart t u (x ∷ live) same =
    (λ i. without_accesses (cond (x.number == (same i).number) u x) ∷ map without_accesses (with u live))
    ∙ either (x.number == t.number)
    ∙ ap (λ (more : List Live). without_accesses (cond (x.number == t.number) t x) ∷ more) (accesses_apart t u live same)
  where
    either : (b : Bool) → (without_accesses (cond b u x) ∷ map without_accesses (with u live)) ≡ (without_accesses (cond b t x) ∷ map without_accesses (with u live))
    either true = ap (λ (v : Live). v ∷ map without_accesses (with u live)) same
    either false = refl
