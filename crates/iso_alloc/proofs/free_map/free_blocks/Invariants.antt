use Rattle.iso_alloc.proofs.Words.{◌≡◌, ◌+◌, ◌-◌, ◌≤◌, free_count}

-- those counted and those that are left
abbrev pub invariant-loop-block : Rattle.iso_alloc.proofs.free_map.free_blocks.Given.invariant-loop-block
invariant-loop-block l = record {
  counted : l.count + free_count l.map l.block (l.region.size - l.block) ≡ free_count l.map l.first (l.region.size - l.first);
  few : l.count ≤ l.block;
  high : l.block ≤ l.region.size;
}

abbrev pub decreases-loop-block : Rattle.iso_alloc.proofs.free_map.free_blocks.Given.decreases-loop-block
decreases-loop-block l = l.region.size - l.block
