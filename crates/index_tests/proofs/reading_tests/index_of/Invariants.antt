-- `count` parts are counted, and the others follow.
use Rattle.std.proofs.Common.{◌≡◌, ◌+◌, ◌≤◌, length}

abbrev pub invariant-loop-part : Rattle.index_tests.proofs.reading_tests.index_of.Given.invariant-loop-part
invariant-loop-part l =
    (Rattle.index_tests.proofs.reading_tests.index_of.Given.iterator-loop-part).can_next l._part-iterator × (Rattle.index_tests.proofs.reading_tests.index_of.Given.iterator-loop-part).is_finite l._part-iterator × (l.count + length l._part-iterator ≡ length l.view.parts) × (l.count ≤ 100)
