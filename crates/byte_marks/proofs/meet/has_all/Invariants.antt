-- What was passed over lies before the span.
use Rattle.byte_marks.proofs.Words.{◌≡◌, ℕ, ◌≤◌, length, has, AreApartFrom}

abbrev pub invariant-loop-extent : Rattle.byte_marks.proofs.meet.has_all.Given.invariant-loop-extent
invariant-loop-extent l = record {
  apart : AreApartFrom 0 l.rest;
  same : (p : ℕ) → l.span.off ≤ p → has l.fn.rest p ≡ has l.rest p;
}

abbrev pub decreases-loop-extent : Rattle.byte_marks.proofs.meet.has_all.Given.decreases-loop-extent
decreases-loop-extent l = length l.rest
