use Rattle.iso_tree.proofs.Words.{◌≡◌, ◌-◌, place_from, place_of}

-- the cells that are left decide
abbrev pub invariant-loop-cell : Rattle.iso_tree.proofs.keys.place_of.Given.invariant-loop-cell
invariant-loop-cell l = place_from l.key l.keys.bytes.now (l.cell - 1) l.cell (l.count - l.cell) ≡ place_of l.key l.keys.bytes.now
