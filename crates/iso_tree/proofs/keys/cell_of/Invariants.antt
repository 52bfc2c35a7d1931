use Rattle.iso_tree.proofs.Words.{◌≡◌, ◌-◌, bytes_eq, key_at, first_from, cell_of}

-- the cells that are left decide
abbrev pub invariant-loop-cell : Rattle.iso_tree.proofs.keys.cell_of.Given.invariant-loop-cell
invariant-loop-cell l = first_from (λ i. bytes_eq (key_at l.keys.bytes.now i) l.key) l.cell (l.cell-end - l.cell) ≡ cell_of l.key l.keys.bytes.now
