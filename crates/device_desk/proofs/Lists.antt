-- The list of live transactions: one changes, leaves, is found, or begins.
use Rattle.iso_machine.proofs.{Words.{◌≡◌, ◌∙◌, inl, inr, sym, refl, ap, ℕ, zero, suc, ◌<◌, List, [], ◌∷◌, length, get_or, set, map, find, arith, ne_eqb, eq-eqb, AllByRecursion, remove, Some, None, Live, with, without, is_at_client, AreDistinct, AreTwo, IsAmong, bare}, Lists.{with_others, without_others}}
use Rattle.device_desk.specs.{declared.seat.Seat.Seat, Seats.live_of}

two_at : (t : Live) (live : List Seat) (i : ℕ) (d : Seat) → AllByRecursion (AreTwo t) (map live_of live) → i < length live → AreTwo t (live_of (get_or live i d))
two_at t [] i d all inside = absurd (omega (arith, inside))
two_at t (a ∷ live) zero d all inside = all.0
two_at t (a ∷ live) (suc i) d all inside = two_at t live i d all.1 (omega (arith, inside))

-- one of them changes
pub with_at : (live : List Seat) (i : ℕ) (d b : Seat) → AreDistinct (map live_of live) → i < length live → b.tx ≡ (get_or live i d).tx
    → with (live_of b) (map live_of live) ≡ map live_of (set live i b)
with_at [] i d b distinct inside same = absurd (omega (arith, inside))
with_at (a ∷ live) zero d b distinct inside same =
    rw (eq-eqb a.tx b.tx (sym same)) (ap (λ (l : List Live). live_of b ∷ l) (with_others (live_of a) (live_of b) (map live_of live) distinct.0 same))
with_at (a ∷ live) (suc i) d b distinct inside same =
    let two = two_at (live_of a) live i d distinct.0 (omega (arith, inside)) in
    rw (ne_eqb a.tx b.tx (λ e. two.numbers (e ∙ same))) (ap (λ (l : List Live). live_of a ∷ l) (with_at live i d b distinct.1 (omega (arith, inside)) same))

-- one of them leaves
pub without_at : (live : List Seat) (i : ℕ) (d : Seat) → AreDistinct (map live_of live) → i < length live
    → without (get_or live i d).tx (map live_of live) ≡ map live_of (remove live i)
without_at [] i d distinct inside = absurd (omega (arith, inside))
without_at (a ∷ live) zero d distinct inside = rw (eq-eqb a.tx a.tx refl) (without_others (live_of a) a.tx (map live_of live) distinct.0 refl)
without_at (a ∷ live) (suc i) d distinct inside =
    let two = two_at (live_of a) live i d distinct.0 (omega (arith, inside)) in
    rw (ne_eqb a.tx (get_or live i d).tx two.numbers) (ap (λ (l : List Live). live_of a ∷ l) (without_at live i d distinct.1 (omega (arith, inside))))

pub among_at : (live : List Seat) (i : ℕ) (d : Seat) → i < length live → IsAmong (live_of (get_or live i d)) (map live_of live)
among_at [] i d inside = absurd (omega (arith, inside))
among_at (a ∷ live) zero d inside = inl refl
among_at (a ∷ live) (suc i) d inside = inr (among_at live i d (omega (arith, inside)))

-- but for accesses and places they stay
pub bare_with : (live : List Seat) (i : ℕ) (d b : Seat) → bare (live_of b) ≡ bare (live_of (get_or live i d))
    → map bare (map live_of (set live i b)) ≡ map bare (map live_of live)
bare_with [] i d b same = refl
bare_with (a ∷ live) zero d b same = ap (λ (t : Live). t ∷ map bare (map live_of live)) same
bare_with (a ∷ live) (suc i) d b same = ap (λ (l : List Live). bare (live_of a) ∷ l) (bare_with live i d b same)

-- the one that has a number is found by it
pub found_at : (number : ℕ) (live : List Seat) (i : ℕ) (d : Seat) → AreDistinct (map live_of live) → i < length live → (get_or live i d).tx ≡ number
    → find (λ t. is_at_client number t.place) (map live_of live) ≡ Some (live_of (get_or live i d))
found_at number [] i d distinct inside is = absurd (omega (arith, inside))
found_at number (a ∷ live) zero d distinct inside is = rw (eq-eqb number a.tx (sym is)) refl
found_at number (a ∷ live) (suc i) d distinct inside is =
    let two = two_at (live_of a) live i d distinct.0 (omega (arith, inside)) in
    rw (ne_eqb number a.tx (λ e. two.numbers (sym e ∙ sym is))) (found_at number live i d distinct.1 (omega (arith, inside)) is)

-- nobody has a number that is above all of theirs
pub none_above : (number : ℕ) (live : List Seat) → AllByRecursion (λ (t : Live). t.number < number) (map live_of live)
    → find (λ t. is_at_client number t.place) (map live_of live) ≡ None
none_above number [] all = refl
none_above number (a ∷ live) all = rw (ne_eqb number a.tx (λ e. omega (arith, e, all.0))) (none_above number live all.1)
