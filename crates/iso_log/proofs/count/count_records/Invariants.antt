use Rattle.iso_log.proofs.{Words.{◌≡◌, ◌++◌, ◌+◌, ◌≤◌, [], ◌∷◌, ℕ, List, length, Geometry, Written, records}, Counts.AreLeft}

abbrev pub invariant-loop-rest : Rattle.iso_log.proofs.count.count_records.Given.invariant-loop-rest
invariant-loop-rest l = record {
  left : (g : Geometry) (n : ℕ) (more : List Written) → l.fn.bytes ≡ records g n more ++ 0 ∷ [] → AreLeft g n more l.count l.rest;
  within : l.count + length l.rest ≤ length l.fn.bytes;
}

abbrev pub decreases-loop-rest : Rattle.iso_log.proofs.count.count_records.Given.decreases-loop-rest
decreases-loop-rest l = length l.rest
