-- The first entries are copied.
use Rattle.byte_marks.proofs.Words.{◌≡◌, take}

abbrev pub invariant-loop-entry : Rattle.byte_marks.proofs.touched.Touched.copy.Given.invariant-loop-entry
invariant-loop-entry l = l.entries.items ≡ take l.entry-index l.entry-items
