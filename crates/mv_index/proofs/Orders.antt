-- Pieces in order: no byte is in two of them.
use Rattle.mv_index.proofs.Words.{◌≡◌, ◌⊎◌, inl, inr, ◌∙◌, sym, refl, ap, ℕ, zero, suc, ◌+◌, ◌-◌, ◌<◌, ◌≤◌, Bool, true, false, ◌&&◌, cond, List, [], ◌∷◌, None, Option, Some, length, get_or, arith, count_by, cases_eq, cases_lt, le-leb, sum_by-cons, or_else, Follow, IsNonDecreasingBy, Version, has, no_version, place_in, place_of, and-false}

-- a version has a byte, or has it not
pub has_it : (p : ℕ) (v : Version) → v.off ≤ p → p < v.off + v.len → has p v ≡ true
has_it p v from to = λ i. le-leb v.off p from i && le-leb (suc p) (v.off + v.len) to i

pub has_not : (p : ℕ) (v : Version) → (p < v.off) ⊎ (v.off + v.len ≤ p) → has p v ≡ false
has_not p v off = grind (arith, and-false)

pub has_cases : (p : ℕ) (v : Version) → ((v.off ≤ p) × (p < v.off + v.len)) ⊎ ((p < v.off) ⊎ (v.off + v.len ≤ p))
has_cases p v = grind arith

pub inside_of : (p : ℕ) (v : Version) → has p v ≡ true → (v.off ≤ p) × (p < v.off + v.len)
inside_of p v own = elim (has_cases p v) [ inl both ↦ both | inr off ↦ (let wrong : true ≡ false = sym own ∙ has_not p v off in cc) ]

pub place_own : (p : ℕ) (v : Version) → has p v ≡ true → place_of p v ≡ Some (v.place + (p - v.off))
place_own p v own = ap (λ (b : Bool). cond b (Some (v.place + (p - v.off))) None) own

pub place_none : (p : ℕ) (v : Version) → (p < v.off) ⊎ (v.off + v.len ≤ p) → place_of p v ≡ None
place_none p v off = ap (λ (b : Bool). cond b (Some (v.place + (p - v.off))) None) (has_not p v off)

pub sooner : (x y : ℕ) (pieces : List Version) → y ≤ x → Follow x pieces → Follow y pieces
sooner x y [] le order = tt
sooner x y (q ∷ pieces) le order = (omega (arith, le, order.0), order.1, order.2)

pub none_before : (x p : ℕ) (pieces : List Version) → Follow x pieces → p < x → (place_in pieces p ≡ None) × (count_by (has p) pieces ≡ 0)
none_before x p [] order lt = (refl, refl)
none_before x p (q ∷ pieces) order lt =
    let rest = none_before (q.off + q.len) p pieces order.2 (omega (arith, lt, order.0)) in
    let off : has p q ≡ false = has_not p q (inl (omega (arith, lt, order.0))) in
    (λ i. or_else (rest.0 i) (cond (off i) (Some (q.place + (p - q.off))) None), sum_by-cons (λ (v : Version). cond (has p v) 1 0) q pieces ∙ (λ i. cond (off i) 1 0 + rest.1 i))

at_most_one : (b : Bool) → cond b 1 0 ≤ 1
at_most_one b = grind arith

pub once : (x p : ℕ) (pieces : List Version) → Follow x pieces → count_by (has p) pieces ≤ 1
once x p [] order = omega arith
once x p (q ∷ pieces) order =
    let all = sum_by-cons (λ (v : Version). cond (has p v) 1 0) q pieces in
    elim (cases_lt p (q.off + q.len)) [
      | inl lt ↦ (let rest = (none_before (q.off + q.len) p pieces order.2 lt).1 in omega (arith, all, rest, at_most_one (has p q)))
      | inr le ↦ (let off : ◌≡◌ {A = ℕ} (cond (has p q) 1 0) 0 = ap (λ (b : Bool). cond b 1 0) (has_not p q (inr le)) in omega (arith, all, off, once (q.off + q.len) p pieces order.2))
    ]

-- a piece shows the bytes that it has
pub own_at : (x p i : ℕ) (pieces : List Version) → Follow x pieces → i < length pieces → has p (get_or pieces i no_version) ≡ true
    → place_in pieces p ≡ Some ((get_or pieces i no_version).place + (p - (get_or pieces i no_version).off))
own_at x p i [] order below own = absurd (omega (arith, below))
own_at x p zero (q ∷ pieces) order below own = ap (λ (o : Option ℕ). or_else o (place_of p q)) (none_before (q.off + q.len) p pieces order.2 (inside_of p q own).1).0 ∙ place_own p q own
own_at x p (suc i) (q ∷ pieces) order below own = ap (λ (o : Option ℕ). or_else o (place_of p q)) (own_at (q.off + q.len) p i pieces order.2 (omega (arith, below)) own)

pub some_at : (x i : ℕ) (d : Version) (pieces : List Version) → Follow x pieces → i < length pieces → (x ≤ (get_or pieces i d).off) × (0 < (get_or pieces i d).len)
some_at x i d [] order below = absurd (omega (arith, below))
some_at x zero d (q ∷ pieces) order below = (order.0, order.1)
some_at x (suc i) d (q ∷ pieces) order below = let rest = some_at (q.off + q.len) i d pieces order.2 (omega (arith, below)) in (omega (arith, rest.0, order.0), rest.1)

pub apart_at : (x i j : ℕ) (d : Version) (pieces : List Version) → Follow x pieces → i < j → j < length pieces → (get_or pieces i d).off + (get_or pieces i d).len ≤ (get_or pieces j d).off
apart_at x i j d [] order lt below = absurd (omega (arith, below))
apart_at x i zero d (q ∷ pieces) order lt below = absurd (omega (arith, lt))
apart_at x zero (suc j) d (q ∷ pieces) order lt below = (some_at (q.off + q.len) j d pieces order.2 (omega (arith, below))).0
apart_at x (suc i) (suc j) d (q ∷ pieces) order lt below = apart_at (q.off + q.len) i j d pieces order.2 (omega (arith, lt)) (omega (arith, below))

pub offs_rise : (x : ℕ) (pieces : List Version) → Follow x pieces → IsNonDecreasingBy (λ q. q.off) pieces
offs_rise x pieces order i j d le below = elim (cases_eq i j) [
  | inl same ↦ omega (arith, ap (λ (k : ℕ). (get_or pieces k d).off) same)
  | inr other ↦ omega (arith, apart_at x i j d pieces order (omega (arith, le, other)) below)
]

pub ends_rise : (x : ℕ) (pieces : List Version) → Follow x pieces → IsNonDecreasingBy (λ q. q.off + q.len) pieces
ends_rise x pieces order i j d le below = elim (cases_eq i j) [
  | inl same ↦ omega (arith, ap (λ (k : ℕ). (get_or pieces k d).off + (get_or pieces k d).len) same)
  | inr other ↦ omega (arith, apart_at x i j d pieces order (omega (arith, le, other)) below)
]
