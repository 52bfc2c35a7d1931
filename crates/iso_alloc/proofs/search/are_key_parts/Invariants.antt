use Rattle.iso_alloc.proofs.Words.{◌≡◌, ◌-◌, all_from, are_key_parts, is_part, key_mark, bytes_in}

-- the parts that are left decide
abbrev pub invariant-loop-cell : Rattle.iso_alloc.proofs.search.are_key_parts.Given.invariant-loop-cell
invariant-loop-cell l = all_from (λ i. is_part 28 (bytes_in (key_mark i) l.keys)) l.cell (l.cell-end - l.cell) ≡ are_key_parts l.size l.keys
