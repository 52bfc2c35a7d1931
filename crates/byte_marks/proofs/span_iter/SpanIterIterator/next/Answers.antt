-- What is left after the first extent still rises and does not touch.
use Rattle.byte_marks.proofs.{Apart.earlier, Words.{arith}}

pub invariant_of-self : Rattle.byte_marks.proofs.span_iter.SpanIterIterator.next.Goals.invariant_of-self
invariant_of-self c = grind (arith, earlier)
