-- Notes whose numbers rise.
use Rattle.conflict_rule.proofs.Words.{◌≡◌, ◌≢◌, ◌∙◌, refl, sym, ap, subst, ℕ, zero, suc, ◌+◌, ◌-◌, ◌<◌, ◌≤◌, Bool, true, false, ◌==◌, cond, nat_lt, List, [], ◌∷◌, ◌++◌, length, get_or, drop, take, take_all, length-drop, arith, ne_eqb, Some, None, lt-ltb, le-ltb, common_steps, Extent, Note, above, note_of, RisesFrom}

-- they rise from any earlier number on too
rises_earlier : (f g : ℕ) (notes : List Note) → f ≤ g → RisesFrom g notes → RisesFrom f notes
rises_earlier f g [] le rises = tt
rises_earlier f g (x ∷ notes) le rises = let from : f ≤ x.0 = omega arith in (from, rises.1)

at_least : (f j : ℕ) (notes : List Note) (d : Note) → RisesFrom f notes → j < length notes → f ≤ (get_or notes j d).0
at_least f j [] d rises lt = absurd (omega arith)
at_least f zero (x ∷ notes) d rises lt = rises.0
at_least f (suc j) (x ∷ notes) d rises lt = let later = at_least (x.0 + 1) j notes d rises.1 (omega arith) in omega (arith, later, rises.0)

pub in_order : (f i j : ℕ) (notes : List Note) (d : Note) → RisesFrom f notes → i ≤ j → j < length notes → (get_or notes i d).0 ≤ (get_or notes j d).0
in_order f i j [] d rises le lt = absurd (omega arith)
in_order f zero zero (x ∷ notes) d rises le lt = omega arith
in_order f zero (suc j) (x ∷ notes) d rises le lt = let later = at_least (x.0 + 1) j notes d rises.1 (omega arith) in omega (arith, later)
in_order f (suc i) zero (x ∷ notes) d rises le lt = absurd (omega arith)
in_order f (suc i) (suc j) (x ∷ notes) d rises le lt = in_order (x.0 + 1) i j notes d rises.1 (omega arith) (omega arith)

-- and strictly
pub in_strict_order : (f i j : ℕ) (notes : List Note) (d : Note) → RisesFrom f notes → i < j → j < length notes → (get_or notes i d).0 < (get_or notes j d).0
in_strict_order f i j [] d rises lt within = absurd (omega arith)
in_strict_order f i zero (x ∷ notes) d rises lt within = absurd (omega arith)
in_strict_order f zero (suc j) (x ∷ notes) d rises lt within = let later = at_least (x.0 + 1) j notes d rises.1 (omega arith) in omega (arith, later)
in_strict_order f (suc i) (suc j) (x ∷ notes) d rises lt within = in_strict_order (x.0 + 1) i j notes d rises.1 (omega arith) (omega arith)

-- a number above all of them may follow
pub rises-append : (f number : ℕ) (notes : List Note) (marks : List (ℕ × List Extent)) → RisesFrom f notes → f ≤ number
    → ((i : ℕ) → (d : Note) → i < length notes → (get_or notes i d).0 < number) → RisesFrom f (notes ++ (number, marks) ∷ [])
rises-append f number [] marks rises le below = (le, tt)
rises-append f number (x ∷ notes) marks rises le below =
    let first : x.0 < number = below 0 x (omega arith) in
    (rises.0, rises-append (x.0 + 1) number notes marks rises.1 (omega arith) (λ i d lt. below (suc i) d (omega arith)))

-- those above a number rise
pub rises_above : (f n : ℕ) (notes : List Note) → RisesFrom f notes → RisesFrom f (above n notes)
rises_above f n [] rises = tt
rises_above f n (x ∷ notes) rises =
    elim (nat_lt n x.0) as (λ t. RisesFrom f (cond t (x ∷ above n notes) (above n notes))) [
      | true ↦ (rises.0, rises_above (x.0 + 1) n notes rises.1)
      | false ↦ rises_above f n notes (rises_earlier f (x.0 + 1) notes (omega (arith, rises.0)) rises.1)
    ]

pub all_above : (f n : ℕ) (notes : List Note) → n < f → RisesFrom f notes → above n notes ≡ notes
all_above f n [] lt rises = refl
all_above f n (x ∷ notes) lt rises =
    let here : nat_lt n x.0 ≡ true = lt-ltb n x.0 (omega (arith, rises.0)) in
    rw here (ap (λ (l : List Note). x ∷ l) (all_above (x.0 + 1) n notes (omega (arith, rises.0)) rises.1))

-- those above a number are those from a place on
above_from : (f n i : ℕ) (notes : List Note) → RisesFrom f notes → i ≤ length notes
    → ((k : ℕ) → k < i → (d : Note) → (get_or notes k d).0 ≤ n) → ((k : ℕ) → i ≤ k → k < length notes → (d : Note) → n < (get_or notes k d).0)
    → drop i notes ≡ above n notes
above_from f n zero [] rises within before after = refl
above_from f n zero (x ∷ notes) rises within before after =
    let first : n < x.0 = after 0 (omega arith) (omega arith) x in
    let here : nat_lt n x.0 ≡ true = lt-ltb n x.0 first in
    rw here (ap (λ (l : List Note). x ∷ l) (sym (all_above (x.0 + 1) n notes (omega arith) rises.1)))
above_from f n (suc i) [] rises within before after = absurd (omega arith)
above_from f n (suc i) (x ∷ notes) rises within before after =
    let first : x.0 ≤ n = before 0 (omega arith) x in
    let here : nat_lt n x.0 ≡ false = le-ltb n x.0 first in
    rw here (above_from (x.0 + 1) n i notes rises.1 (omega arith) (λ k lt d. before (suc k) (omega arith) d) (λ k le lt d. after (suc k) (omega arith) (omega arith) d))

-- where the place was found in a slice of them
pub above_at : (n i : ℕ) (notes seen : List Note) → seen ≡ notes → RisesFrom 0 notes → i ≤ length seen
    → ((k : ℕ) → k < i → (d : Note) → (get_or seen k d).0 ≤ n) → ((k : ℕ) → i ≤ k → k < length seen → (d : Note) → n < (get_or seen k d).0)
    → drop i notes ≡ above n notes
above_at n i notes seen same rises within before after =
    subst (λ (l : List Note). drop i l ≡ above n l) same (above_from 0 n i seen (subst (λ (l : List Note). RisesFrom 0 l) (sym same) rises) within before after)

-- and those behind it in another slice of them
pub above_behind : (n i : ℕ) (notes seen more : List Note) → seen ≡ notes → more ≡ notes → RisesFrom 0 notes → i ≤ length seen
    → ((k : ℕ) → k < i → (d : Note) → (get_or seen k d).0 ≤ n) → ((k : ℕ) → i ≤ k → k < length seen → (d : Note) → n < (get_or seen k d).0)
    → take (length more - i) (drop i more) ≡ above n notes
above_behind n i notes seen more same also rises within before after =
    take_all (length more - i) (drop i more) (omega (arith, length-drop i more)) ∙ ap (drop i) also ∙ above_at n i notes seen same rises within before after

-- the note at a place is that of its number, and where no number is the same there is none
pub note_at : (f number i : ℕ) (notes : List Note) (d : Note) → RisesFrom f notes → i < length notes → (get_or notes i d).0 ≡ number
    → note_of number notes ≡ Some (get_or notes i d).1
note_at f number i [] d rises lt same = absurd (omega arith)
note_at f number zero (x ∷ notes) d rises lt same = let here : (x.0 == number) ≡ true = grind (arith, common_steps) in rw here refl
note_at f number (suc i) (x ∷ notes) d rises lt same =
    let later = at_least (x.0 + 1) i notes d rises.1 (omega arith) in
    let other : x.0 ≢ number = λ e. omega (arith, later, same) in
    let here : (x.0 == number) ≡ false = ne_eqb x.0 number other in
    rw here (note_at (x.0 + 1) number i notes d rises.1 (omega arith) same)

pub no_note : (number : ℕ) (notes : List Note) → ((k : ℕ) → (d : Note) → k < length notes → (get_or notes k d).0 ≢ number) → note_of number notes ≡ None
no_note number [] other = refl
no_note number (x ∷ notes) other =
    let here : (x.0 == number) ≡ false = ne_eqb x.0 number (other 0 x (omega arith)) in
    rw here (no_note number notes (λ k d lt. other (suc k) d (omega arith)))

-- either way they rise
pub rises_either : (t : Bool) (xs ys zs : List Note) → zs ≡ cond t xs ys → RisesFrom 0 xs → RisesFrom 0 ys → RisesFrom 0 zs
rises_either true xs ys zs is first second = subst (λ (l : List Note). RisesFrom 0 l) (sym is) first
rises_either false xs ys zs is first second = subst (λ (l : List Note). RisesFrom 0 l) (sym is) second
