-- A byte of an entry is one of its block.
use Rattle.byte_marks.proofs.Words.{◌≡◌, ◌∙◌, ℕ, ◌==◌, true, IsTrue, List, ◌∷◌, ap, arith, refl, nat_tests, Extent, has, touches}

touched_first : (x : ℕ × List Extent) (xs : List (ℕ × List Extent)) (p : ℕ) → IsTrue (has x.1 p) → touches (x ∷ xs) x.0 p ≡ true
touched_first x xs p some = let same : (x.0 == x.0) ≡ true = grind (arith, nat_tests) in rw (same, some) refl

pub returns-then-not-is_empty-clause-some : Rattle.byte_marks.proofs.touched.touch_none.Goals.returns-then-not-is_empty-clause-some
returns-then-not-is_empty-clause-some c =
    let x = c.in-Some.first.now in
    let (p, some) = c.if-not-is_empty.ensures.some in
    let first : touches c.loop-first.rest.now x.0 p ≡ true =
    ap (λ (l : List (ℕ × List Extent)). touches l x.0 p) c.in-Some.ensures.cases.0 ∙ touched_first x c.in-Some.others.now p some in
    (x.0, p, c.loop-first.invariant x.0 p ∙ first)
