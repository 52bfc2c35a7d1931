-- The first of those with the least begin.
use Rattle.std.proofs.{Common.{◌≡◌, refl, sym, subst, ℕ, ◌<◌, ◌≤◌, ◌==◌, Bool, true, false, cond, List, [], ◌∷◌, find, nat_lt, arith, Some, option_map}, lemmas.Bool.Decides.nat_tests}
use Rattle.std.specs.Prelude.{min}
use Rattle.iso_model.specs.World.{Live, least_begin}

-- the number of the one that began first, of one with this number and begin and of these
abbrev pub first_least : (number begin : ℕ) → List Live → ℕ
first_least number begin [] = number
first_least number begin (t ∷ live) = cond (nat_lt t.begin begin) (first_least t.number t.begin live) (first_least number begin live)

least_under : (n : ℕ) (live : List Live) → least_begin n live ≤ n
least_under n [] = omega arith
least_under n (t ∷ live) = let rest = least_under (min n t.begin) live in grind (arith, nat_tests)

-- the first one that began there has that number
abbrev FirstOf : ℕ → List Live → ℕ → Type 0
FirstOf n live number = option_map (λ u. u.number) (find (λ u. u.begin == n) live) ≡ Some number

pub first_is : (t : Live) (live : List Live) → FirstOf (least_begin t.begin live) (t ∷ live) (first_least t.number t.begin live)
first_is t [] = let e : (t.begin == t.begin) ≡ true = grind (arith, nat_tests) in rw e refl
first_is t (u ∷ live) = by (nat_lt u.begin t.begin) refl (first_is u live) (first_is t live)
  where
    by : (b : Bool) → nat_lt u.begin t.begin ≡ b → FirstOf (least_begin u.begin live) (u ∷ live) (first_least u.number u.begin live) → FirstOf (least_begin t.begin live) (t ∷ live) (first_least t.number t.begin live)
        → FirstOf (least_begin (min t.begin u.begin) live) (t ∷ u ∷ live) (cond b (first_least u.number u.begin live) (first_least t.number t.begin live))
    by true is later kept =
        let less : u.begin < t.begin = grind (arith, nat_tests) in
        let m : min t.begin u.begin ≡ u.begin = grind (arith, nat_tests) in
        let under = least_under u.begin live in
        let apart : (t.begin == least_begin u.begin live) ≡ false = grind (arith, nat_tests) in
        subst (λ (k : ℕ). FirstOf (least_begin k live) (t ∷ u ∷ live) (first_least u.number u.begin live)) (sym m) (rw apart later)
    by false is later kept =
        let more : t.begin ≤ u.begin = grind (arith, nat_tests) in
        let m : min t.begin u.begin ≡ t.begin = grind (arith, nat_tests) in
        subst (λ (k : ℕ). FirstOf (least_begin k live) (t ∷ u ∷ live) (first_least t.number t.begin live)) (sym m) (at (t.begin == least_begin t.begin live) refl more (least_under t.begin live) kept)
      where
        at : (h : Bool) → (t.begin == least_begin t.begin live) ≡ h → t.begin ≤ u.begin → least_begin t.begin live ≤ t.begin
            → option_map (λ v. v.number) (cond h (Some t) (find (λ v. v.begin == least_begin t.begin live) live)) ≡ Some (first_least t.number t.begin live)
            → option_map (λ v. v.number) (cond h (Some t) (cond (u.begin == least_begin t.begin live) (Some u) (find (λ v. v.begin == least_begin t.begin live) live))) ≡ Some (first_least t.number t.begin live)
        at true here more under rest = rest
        at false here more under rest =
            let apart : (u.begin == least_begin t.begin live) ≡ false = grind (arith, nat_tests) in
            rw apart rest
