-- A span is all there exactly where it lies in the first extent that ends after its begin.
use Rattle.byte_marks.proofs.{Words.{◌≡◌, ℕ, ◌+◌, ◌<◌, ◌≤◌, false, IsTrue, ◌∙◌, subst, arith, inl, inr, List, ◌∷◌, leb, cases_lt, lt-leb, le-leb, nat_tests, OnFalse, in_span, Span, Extent, has, in_extent, AreApartFrom}, Apart.{earlier, none_before}}

spans_it : (p : ℕ) (s : Span) → s.off ≤ p → p < s.off + s.len → IsTrue (in_span p s)
spans_it p s le lt = grind (arith, nat_tests)

-- extents with their first one, which has neither its end nor what lies before it
module _ (x : Extent) (xs all : List Extent) (is : all ≡ x ∷ xs) (rise : AreApartFrom 0 all) where
  apart : AreApartFrom 0 (x ∷ xs)
  apart = subst (λ (l : List Extent). AreApartFrom 0 l) is rise

  none_at : (p : ℕ) → in_extent p x ≡ false → p ≤ x.to → has all p ≡ false
  none_at p out le = grind (arith, none_before)

  none_at_end : has all x.to ≡ false
  none_at_end = none_at x.to (grind (arith, nat_tests)) (omega arith)

  none_under : (p : ℕ) → p < x.from → has all p ≡ false
  none_under p lt = none_at p (grind (arith, nat_tests)) (omega (arith, apart.1))

  rest_apart : AreApartFrom 0 xs
  rest_apart = earlier 0 (x.to + 1) xs (omega arith) apart.3

  passes : (p : ℕ) → x.to ≤ p → has all p ≡ has xs p
  passes p le = grind arith

-- where a test fails, the witness that is true then
on_false : (a b : ℕ) (P : Type 0) → (b < a → P) → OnFalse (leb a b) P
on_false a b P f = elim (cases_lt b a) [ inl lt ↦ rw (lt-leb a b lt) (f lt) | inr le ↦ rw (le-leb a b le) tt ]

pub returns-then-extent-span-clause-missing : Rattle.byte_marks.proofs.meet.has_all.Goals.returns-then-extent-span-clause-missing
returns-then-extent-span-clause-missing c =
    let x = c.in-Some.extent.now in
    on_false (c.from.result + c.from-2.result) c.from-then-extent-span.result _ (λ past.
    (let least : c.args.span.off ≤ x.to = omega arith in
    let inside : x.to < c.args.span.off + c.args.span.len = omega arith in
    (x.to, spans_it x.to c.args.span least inside, c.loop-extent.invariant.same x.to least ∙ none_at_end x c.in-Some.others.now _ c.in-Some.ensures.cases.0 c.loop-extent.invariant.apart)))

pub returns-else-extent-span-clause-missing : Rattle.byte_marks.proofs.meet.has_all.Goals.returns-else-extent-span-clause-missing
returns-else-extent-span-clause-missing c =
    let x = c.in-Some.extent.now in
    let s = c.args.span in
    on_false x.from s.off _ (λ past.
    (let least : s.off ≤ s.off = omega arith in
    (s.off, spans_it s.off s least (omega arith), c.loop-extent.invariant.same s.off least ∙ none_under x c.in-Some.others.now _ c.in-Some.ensures.cases.0 c.loop-extent.invariant.apart s.off past)))

pub loop-extent-preserved : Rattle.byte_marks.proofs.meet.has_all.Goals.loop-extent-preserved
loop-extent-preserved c = grind (arith, rest_apart)
