use Rattle.iso_alloc.proofs.Words.{◌≡◌, ◌-◌, ◌==◌, get_or, unused_cell, key_mark, first_from, bytes_in}

-- the cells that are left decide
abbrev pub invariant-loop-cell : Rattle.iso_alloc.proofs.search.unused_cell.Given.invariant-loop-cell
invariant-loop-cell l = first_from (λ i. get_or (bytes_in (key_mark i) l.keys) 0 0 == 0) l.cell (l.cell-end - l.cell) ≡ unused_cell l.size l.keys
