-- The runs that are done, the one that may still grow, and what is left of both lists have the bytes of both.
use Rattle.byte_marks.proofs.Words.{◌≡◌, ℕ, ◌+◌, ◌<◌, ◌≤◌, ◌||◌, length, has, in_extent, next_free, AreApartFrom}

abbrev pub invariant-loop-next : Rattle.byte_marks.proofs.merge.merged.Given.invariant-loop-next
invariant-loop-next l = record {
  a : AreApartFrom l.open.from l.a;
  b : AreApartFrom l.open.from l.b;
  some : l.open.from < l.open.to;
  inside : l.open.to ≤ 4096;
  done : AreApartFrom 0 l.out.items;
  free : next_free 0 l.out.items ≤ l.open.from;
  set : (p : ℕ) → ((has l.out.items p || in_extent p l.open) || (has l.a p || has l.b p)) ≡ (has l.fn.a p || has l.fn.b p);
  len : length l.out.items + length l.a + length l.b + 1 ≤ length l.fn.a + length l.fn.b;
  room : 8 ≤ l.out.capacity;
}

abbrev pub decreases-loop-next : Rattle.byte_marks.proofs.merge.merged.Given.decreases-loop-next
decreases-loop-next l = length l.a + length l.b
