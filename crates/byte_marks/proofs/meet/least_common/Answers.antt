-- The earlier of two extents that do not meet meets nothing of the other list.
use Rattle.byte_marks.proofs.{Words.{◌≡◌, ℕ, ◌<◌, ◌≤◌, ◌&&◌, false, ◌∙◌, subst, arith, List, ◌∷◌, max, Extent, has, AreApartFrom}, Apart.{earlier, none_before, from_head, pass_over, pass_over_right}, meet.least_common.Goals.{else-start-x-via-then-start-x+else-start-y, else-start-x-via-else-start-x}}

-- two lists and the first extent of each
module _ (x y : Extent) (xs ys a b : List Extent) (a_is : a ≡ x ∷ xs) (b_is : b ≡ y ∷ ys) (a_apart : AreApartFrom 0 a) (b_apart : AreApartFrom 0 b) where
  apart_a : AreApartFrom 0 (x ∷ xs)
  apart_a = subst (λ (l : List Extent). AreApartFrom 0 l) a_is a_apart

  apart_b : AreApartFrom 0 (y ∷ ys)
  apart_b = subst (λ (l : List Extent). AreApartFrom 0 l) b_is b_apart

  -- no byte before the later of two begins is in both
  before_both : (p : ℕ) → p < max x.from y.from → (has a p && has b p) ≡ false
  before_both p lt = grind (arith, none_before, from_head, apart_a, apart_b)

  pass_first : (x.from < x.to → y.from < y.to → x.to ≤ y.from) → AreApartFrom 0 xs × ((p : ℕ) → (has a p && has b p) ≡ (has xs p && has b p))
  pass_first later = grind (arith, from_head, apart_b, earlier, pass_over)

  pass_second : (x.from < x.to → y.from < y.to → y.to ≤ x.from) → AreApartFrom 0 ys × ((p : ℕ) → (has a p && has b p) ≡ (has a p && has ys p))
  pass_second later = grind (arith, from_head, apart_a, earlier, pass_over_right)

pub returns-then-start-y-clause-least : Rattle.byte_marks.proofs.meet.least_common.Goals.returns-then-start-y-clause-least
returns-then-start-y-clause-least c p lt =
    let w = c.in-Some-Some in
    let was = c.loop-x.invariant in
    was.same p ∙ before_both w.x.now w.y.now w.xs.now w.ys.now _ _ w.ensures.cases.0 w.ensures'.cases.0 was.a was.b p (omega arith)

pub loop-x-preserved-then-x-y : Rattle.byte_marks.proofs.meet.least_common.Goals.loop-x-preserved-then-x-y
loop-x-preserved-then-x-y c =
    let w = c.in-Some-Some in
    let was = c.loop-x.invariant in
    let step = pass_first w.x.now w.y.now w.xs.now w.ys.now _ _ w.ensures.cases.0 w.ensures'.cases.0 was.a was.b
    (λ some more. elim c.else-start-x.branch [ else-start-x-via-then-start-x+else-start-y here ↦ omega arith | else-start-x-via-else-start-x here ↦ omega arith ]) in
    record { a = step.0; b = was.b; same = λ p. was.same p ∙ step.1 p }

pub loop-x-preserved : Rattle.byte_marks.proofs.meet.least_common.Goals.loop-x-preserved
loop-x-preserved c =
    let w = c.in-Some-Some in
    let was = c.loop-x.invariant in
    let step = pass_second w.x.now w.y.now w.xs.now w.ys.now _ _ w.ensures.cases.0 w.ensures'.cases.0 was.a was.b
    (λ some more. elim c.else-start-x.branch [ else-start-x-via-then-start-x+else-start-y here ↦ omega arith | else-start-x-via-else-start-x here ↦ omega arith ]) in
    record { a = was.a; b = step.0; same = λ p. was.same p ∙ step.1 p }
