use Rattle.iso_alloc.proofs.Words.{◌≡◌, ◌-◌, ◌≤◌, not, first_from, lowest_free, map_bit}

-- the blocks that are left decide
abbrev pub invariant-loop-block : Rattle.iso_alloc.proofs.free_map.lowest_free.Given.invariant-loop-block
invariant-loop-block l = record {
  left : first_from (λ k. not (map_bit l.map k)) l.block (l.region.size - l.block) ≡ lowest_free l.map l.first (l.region.size - l.first);
  low : l.first ≤ l.block;
  high : l.block ≤ l.region.size;
}

abbrev pub decreases-loop-block : Rattle.iso_alloc.proofs.free_map.lowest_free.Given.decreases-loop-block
decreases-loop-block l = l.region.size - l.block
