use Rattle.iso_alloc.proofs.Words.{◌≡◌, ◌-◌, bytes_eq, cell_with, key_at, first_from}

-- the cells that are left decide
abbrev pub invariant-loop-cell : Rattle.iso_alloc.proofs.search.cell_with.Given.invariant-loop-cell
invariant-loop-cell l = first_from (λ i. bytes_eq (key_at l.keys i) l.key) l.cell (l.cell-end - l.cell) ≡ cell_with l.size l.key l.keys
