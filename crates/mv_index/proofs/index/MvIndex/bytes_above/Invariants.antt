-- The rows that are left count for the rest.
use Rattle.mv_index.proofs.Words.{◌≡◌, ◌+◌, drop, bytes_above}

abbrev pub invariant-loop-row : Rattle.mv_index.proofs.index.MvIndex.bytes_above.Given.invariant-loop-row
invariant-loop-row l = l.bytes + bytes_above l.number (drop l.row-index l.row-items) ≡ bytes_above l.number l.row-items
