-- What was passed over meets nothing.
use Rattle.byte_marks.proofs.Words.{◌≡◌, ℕ, ◌+◌, ◌&&◌, length, has, AreApartFrom}

abbrev pub invariant-loop-x : Rattle.byte_marks.proofs.meet.least_common.Given.invariant-loop-x
invariant-loop-x l = record {
  a : AreApartFrom 0 l.a;
  b : AreApartFrom 0 l.b;
  same : (p : ℕ) → (has l.fn.a p && has l.fn.b p) ≡ (has l.a p && has l.b p);
}

abbrev pub decreases-loop-x : Rattle.byte_marks.proofs.meet.least_common.Given.decreases-loop-x
decreases-loop-x l = length l.a + length l.b
