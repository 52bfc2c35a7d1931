-- The floor is the least live begin.
use Rattle.iso_model.proofs.Words.{◌≡◌, ◌⊎◌, ℕ, suc, ◌≤◌, ◌<◌, List, [], ◌∷◌, min, length, refl, sym, inl, inr, arith, AllByRecursion, cases_lt, Live, BeganAt, least_begin, floor_of}

least_below : (n : ℕ) (live : List Live) → (least_begin n live ≤ n) × AllByRecursion (λ t. least_begin n live ≤ t.begin) live
least_below n [] = (omega arith, tt)
least_below n (t ∷ live) =
    let rest = least_below (min n t.begin) live in
    (omega arith, (omega arith, rest.1))

further : (n : ℕ) (t : Live) (live : List Live) → BeganAt n live → BeganAt n (t ∷ live)
further n t live (i, u, at, begin) = (suc i, u, at, begin)

least_met : (n : ℕ) (live : List Live) → (least_begin n live ≡ n) ⊎ BeganAt (least_begin n live) live
least_met n [] = inl refl
least_met n (t ∷ live) = go (least_met (min n t.begin) live)
  where
    go : (least_begin (min n t.begin) live ≡ min n t.begin) ⊎ BeganAt (least_begin (min n t.begin) live) live
        → (least_begin (min n t.begin) live ≡ n) ⊎ BeganAt (least_begin (min n t.begin) live) (t ∷ live)
    go (inr met) = inr (further (least_begin (min n t.begin) live) t live met)
    go (inl same) = elim (cases_lt n t.begin) [
      | inl before ↦ inl (omega (arith, same))
      | inr after ↦ inr (0, t, refl, omega (arith, same))
    ]

-- no live transaction began below it
pub floor_below : (n : ℕ) (live : List Live) → AllByRecursion (λ t. floor_of n live ≤ t.begin) live
floor_below n [] = tt
floor_below n (t ∷ live) = least_below t.begin live

-- where one is live, one of them began there
pub floor_met : (n : ℕ) (live : List Live) → 0 < length live → BeganAt (floor_of n live) live
floor_met n [] some = absurd (omega arith)
floor_met n (t ∷ live) some = elim (least_met t.begin live) [
  | inl same ↦ (0, t, refl, sym same)
  | inr met ↦ further (least_begin t.begin live) t live met
]

-- a number below which no live transaction began is not above the floor
least_above : (m n : ℕ) (live : List Live) → m ≤ n → AllByRecursion (λ t. m ≤ t.begin) live → m ≤ least_begin n live
least_above m n [] below all = below
least_above m n (t ∷ live) below all =
    let begin : m ≤ t.begin = all.0 in
    least_above m (min n t.begin) live (omega (arith, below, begin)) all.1

pub floor_above : (m n : ℕ) (live : List Live) → m ≤ n → AllByRecursion (λ t. m ≤ t.begin) live → m ≤ floor_of n live
floor_above m n [] below all = below
floor_above m n (t ∷ live) below all = least_above m t.begin live all.0 all.1

-- the floor is not above a number above which none began
pub floor_under : (n : ℕ) (live : List Live) → AllByRecursion (λ t. t.begin ≤ n) live → floor_of n live ≤ n
floor_under n [] all = omega arith
floor_under n (t ∷ live) all = grind (arith, least_below)
