-- The versions that are left count for the rest.
use Rattle.mv_index.proofs.Words.{◌≡◌, ◌+◌, drop, part_bytes_above}

abbrev pub invariant-loop-version : Rattle.mv_index.proofs.weight.sum_above.Given.invariant-loop-version
invariant-loop-version l = l.bytes + part_bytes_above l.number (drop l.version-index l.versions) ≡ part_bytes_above l.number l.versions
