-- What was passed over has no byte.
use Rattle.byte_marks.proofs.Words.{◌≡◌, ℕ, length, touches}

abbrev pub invariant-loop-first : Rattle.byte_marks.proofs.touched.touch_none.Given.invariant-loop-first
invariant-loop-first l = (b p : ℕ) → touches l.fn.rest b p ≡ touches l.rest b p

abbrev pub decreases-loop-first : Rattle.byte_marks.proofs.touched.touch_none.Given.decreases-loop-first
decreases-loop-first l = length l.rest
