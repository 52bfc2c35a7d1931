use Rattle.iso_tree.proofs.{Words.{◌≡◌, ◌≢◌, ◌-◌, all_from, key_at}, Passes.fits_in}

-- the cells that are left decide, and the last key is that of the cell before
abbrev pub invariant-loop-cell : Rattle.iso_tree.proofs.keys.are_cells.Given.invariant-loop-cell
invariant-loop-cell l =
    (all_from (fits_in l.keys) l.cell (l.count - l.cell) ≡ all_from (fits_in l.keys) 0 l.count) × (l.cell ≢ 0 → l.last ≡ key_at l.keys (l.cell - 1))
