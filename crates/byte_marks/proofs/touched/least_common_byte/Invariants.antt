-- What was passed over meets nothing.
use Rattle.byte_marks.proofs.Words.{◌≡◌, ℕ, ◌+◌, ◌&&◌, length, touches, RisesFrom}

abbrev pub invariant-loop-x : Rattle.byte_marks.proofs.touched.least_common_byte.Given.invariant-loop-x
invariant-loop-x l = record {
  a : RisesFrom 0 l.a;
  b : RisesFrom 0 l.b;
  same : (b p : ℕ) → (touches l.fn.a b p && touches l.fn.b b p) ≡ (touches l.a b p && touches l.b b p);
}

abbrev pub decreases-loop-x : Rattle.byte_marks.proofs.touched.least_common_byte.Given.decreases-loop-x
decreases-loop-x l = length l.a + length l.b
