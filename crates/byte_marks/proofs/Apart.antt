-- Extents that rise and do not touch.
use Rattle.byte_marks.proofs.Words.{◌≡◌, refl, ◌∙◌, ap, sym, ℕ, ◌+◌, ◌-◌, ◌<◌, ◌≤◌, Bool, true, false, ◌&&◌, ◌||◌, max, map, inl, inr, List, [], ◌∷◌, ◌++◌, arith, nat_le, nat_lt, Option, Some, and_comm, and-false, or-false, nat_tests, list_any-append, last_or, list_any, Extent, and_left, and_right, cases_lt, in_span, has, in_extent, next_free, span_of, AreApartFrom, AreRunsFrom}

-- they rise from any earlier byte on too
pub earlier : (f g : ℕ) (xs : List Extent) → f ≤ g → AreApartFrom g xs → AreApartFrom f xs
earlier f g [] le apart = tt
earlier f g (x ∷ xs) le apart = let from : f ≤ x.from = omega arith in (from, apart.1, apart.2, apart.3)

-- no byte before the first of them is marked
pub none_before : (f p : ℕ) (xs : List Extent) → p < f → AreApartFrom f xs → has xs p ≡ false
none_before f p [] lt apart = refl
none_before f p (x ∷ xs) lt apart =
    let here : in_extent p x ≡ false = before f p x lt apart.0 in
    let later : has xs p ≡ false = none_before (x.to + 1) p xs (omega arith) apart.3 in
    rw (here, later) refl
  where
    before : (f p : ℕ) (x : Extent) → p < f → f ≤ x.from → in_extent p x ≡ false
    before f p x lt le = grind (arith, nat_tests)

pub AreApartFrom-append : (f : ℕ) (xs : List Extent) (x : Extent) → AreApartFrom f xs → next_free f xs ≤ x.from → x.from < x.to → x.to ≤ 4096
    → AreApartFrom f (xs ++ x ∷ [])
AreApartFrom-append f [] x apart le some inside = (le, some, inside, tt)
AreApartFrom-append f (y ∷ ys) x apart le some inside = (apart.0, apart.1, apart.2, AreApartFrom-append (y.to + 1) ys x apart.3 le some inside)

-- the last of them may end later
pub wider_last : (f to : ℕ) (xs : List Extent) (x : Extent) → AreApartFrom f (xs ++ x ∷ []) → x.from < to → to ≤ 4096
    → AreApartFrom f (xs ++ record { from = x.from; to = to } ∷ [])
wider_last f to [] x apart some inside = (apart.0, some, inside, tt)
wider_last f to (y ∷ ys) x apart some inside = (apart.0, apart.1, apart.2, wider_last (y.to + 1) to ys x apart.3 some inside)

pub next_free-append : (f : ℕ) (xs : List Extent) (x : Extent) → next_free f (xs ++ x ∷ []) ≡ x.to + 1
next_free-append f [] x = refl
next_free-append f (y ∷ ys) x = next_free-append (y.to + 1) ys x

pub last_or-append : (o : Option Extent) (xs : List Extent) (x : Extent) → last_or o (xs ++ x ∷ []) ≡ Some x
last_or-append o [] x = refl
last_or-append o (y ∷ ys) x = last_or-append (Some y) ys x

-- the last of them ends in a block too
pub last_inside : (f : ℕ) (xs : List Extent) (x : Extent) → AreApartFrom f (xs ++ x ∷ []) → x.to ≤ 4096
last_inside f [] x apart = apart.2
last_inside f (y ∷ ys) x apart = last_inside (y.to + 1) ys x apart.3

-- two extents that touch have the bytes of one
pub joined_has : (a b c d p : ℕ) → a ≤ c → c ≤ b → c < d
    → (nat_le a p && nat_lt p (max b d)) ≡ ((nat_le a p && nat_lt p b) || (nat_le c p && nat_lt p d))
joined_has a b c d p order touch some = grind (arith, nat_tests)

-- an extent meets none of those that begin after it
pub meets_none : (p : ℕ) (x : Extent) (ys : List Extent) → AreApartFrom x.to ys → (in_extent p x && has ys p) ≡ false
meets_none p x ys apart = elim (cases_lt p x.to) [
  | inl lt ↦ and_right (in_extent p x) (has ys p) (none_before x.to p ys lt apart)
  | inr le ↦ and_left (in_extent p x) (has ys p) (past p x le)
]
  where
    past : (p : ℕ) (x : Extent) → x.to ≤ p → in_extent p x ≡ false
    past p x le = grind (arith, nat_tests)

-- what a set does not meet may be left out of the other
pub leave_out : (a b c : Bool) → (a && c) ≡ false → ((a || b) && c) ≡ (b && c)
leave_out true true true apart = absurd (cc)
leave_out true false true apart = absurd (cc)
leave_out true b false apart = sym (and-false b)
leave_out false b c apart = refl

-- so it may be passed over
pub pass_over : (p : ℕ) (x : Extent) (xs ys : List Extent) → AreApartFrom x.to ys → (has (x ∷ xs) p && has ys p) ≡ (has xs p && has ys p)
pass_over p x xs ys apart = leave_out (in_extent p x) (has xs p) (has ys p) (meets_none p x ys apart)

pub pass_over_right : (p : ℕ) (y : Extent) (xs ys : List Extent) → AreApartFrom y.to xs → (has xs p && has (y ∷ ys) p) ≡ (has xs p && has ys p)
pass_over_right p y xs ys apart = and_comm (has xs p) (has (y ∷ ys) p) ∙ pass_over p y ys xs apart ∙ and_comm (has ys p) (has xs p)

-- they rise from where the first of them begins on
pub from_head : (f g : ℕ) (x : Extent) (xs : List Extent) → AreApartFrom f (x ∷ xs) → g ≤ x.from → AreApartFrom g (x ∷ xs)
from_head f g x xs apart le = (le, apart.1, apart.2, apart.3)

-- their spans are maximal runs
pub runs_of : (f : ℕ) (xs : List Extent) → AreApartFrom f xs → AreRunsFrom f (map span_of xs)
runs_of f [] apart = tt
runs_of f (x ∷ xs) apart =
    let end : x.from + (x.to - x.from) ≡ x.to = omega arith in
    let some : 0 < x.to - x.from = omega arith in
    let inside : x.from + (x.to - x.from) ≤ 4096 = omega arith in
    let rest : AreRunsFrom (x.from + (x.to - x.from) + 1) (map span_of xs) = rw end (runs_of (x.to + 1) xs apart.3) in
    (apart.0, some, inside, rest)

-- and have the same bytes
pub has_of_spans : (f p : ℕ) (xs : List Extent) → AreApartFrom f xs → list_any (in_span p) (map span_of xs) ≡ has xs p
has_of_spans f p [] apart = refl
has_of_spans f p (x ∷ xs) apart =
    let end : x.from + (x.to - x.from) ≡ x.to = omega arith in
    let rest = has_of_spans (x.to + 1) p xs apart.3 in
    rw (end, rest) refl

-- one more extent at the end
pub has-append : (p : ℕ) (xs : List Extent) (x : Extent) → has (xs ++ x ∷ []) p ≡ (has xs p || in_extent p x)
has-append p xs x = list_any-append (in_extent p) xs (x ∷ []) ∙ ap (λ b. has xs p || b) (or-false (in_extent p x))

-- a further extent that is counted to the open one in place of the rest
pub regroup : (o e n r : Bool) → ((o || (e || n)) || r) ≡ ((o || e) || (n || r))
regroup o e n r = grind arith
