-- The bytes of the first marks.
use Rattle.tx_table.proofs.Words.{◌≡◌, ℕ, take, list_any, has, in_span}

abbrev pub invariant-loop-at : Rattle.tx_table.proofs.fold.covered_bytes.Given.invariant-loop-at
invariant-loop-at l = (p : ℕ) → has l.marks p ≡ list_any (in_span p) (take l.at l.row.spans)
