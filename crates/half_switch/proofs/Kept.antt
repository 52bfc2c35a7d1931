-- An image through writes in the half that is filled, after its closed gate.
use Rattle.half_switch.proofs.Words.{◌≡◌, ◌≤◌, ◌+◌, ◌-◌, inl, ℕ, zero, suc, List, refl, sym, ◌∙◌, ap, arith, subst, Geometry, half_size, header_place, Torn, get_or-torn, IsClosed, HalfPlace, Half, IsHeld, held_half, beside_closed, FillPlan, AreHalves, IsFrom, place_of}

pub kept_closed : (header n : ℕ) (old new : List ℕ) → IsClosed header old → Torn (header + 1) n old new → IsClosed header new
kept_closed header n old new closed torn is = closed (sym (get_or-torn torn header 0 (inl (omega arith))) ∙ is)

one_half : (g : Geometry) (a b : ℕ) → a ≤ 1 → b ≤ 1 → header_place g a ≡ header_place g b → a ≡ b
one_half g zero zero first second same = refl
one_half g zero (suc zero) first second same = absurd (omega (arith, same))
one_half g (suc zero) zero first second same = absurd (omega (arith, same))
one_half g (suc zero) (suc zero) first second same = refl
one_half g zero (suc (suc b)) first second same = absurd (omega (arith, second))
one_half g (suc zero) (suc (suc b)) first second same = absurd (omega (arith, second))
one_half g (suc (suc a)) b first second same = absurd (omega (arith, first))

-- the other half's place
pub other_place : (g : Geometry) (x : Half) (from to : HalfPlace) (plan : FillPlan) → x.at ≤ 1 → IsFrom g x from plan → AreHalves plan.geometry from to → to ≡ place_of g (1 - x.at)
other_place g x from to plan le is halves = grind (arith, one_half)

pub kept_held : (g : Geometry) (x : Half) (from to : HalfPlace) (plan : FillPlan) (old new : List ℕ) → IsFrom g x from plan → AreHalves plan.geometry from to → IsHeld g x old → IsClosed to.header old
    → Torn (to.header + 1) (half_size plan.geometry - 1) old new → IsHeld g x new
kept_held g x from to plan old new is halves has closed torn =
    let le = held_half g x old has in
    let there = other_place g x from to plan le is halves in
    let header : to.header ≡ header_place g (1 - x.at) = ap (λ (p : HalfPlace). p.header) there in
    let size : half_size plan.geometry ≡ half_size g = ap half_size is.geometry in
    beside_closed g x (1 - x.at) old new (omega (arith, le)) has
    (record { from = to.header + 1; count = half_size plan.geometry - 1; starts = omega (arith, header); ends = omega (arith, header, size); torn = torn })
    (subst (λ (k : ℕ). IsClosed k new) header (kept_closed to.header (half_size plan.geometry - 1) old new closed torn))
