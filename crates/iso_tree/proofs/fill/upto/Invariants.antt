use Rattle.iso_tree.proofs.Words.{◌≡◌, ◌+◌, ◌-◌, upto_from}

-- those passed and those that are left
abbrev pub invariant-loop-cell : Rattle.iso_tree.proofs.fill.upto.Given.invariant-loop-cell
invariant-loop-cell l = (l.cell - l.first) + upto_from l.key l.keys.bytes.now l.cell (l.count - l.cell) ≡ upto_from l.key l.keys.bytes.now l.first (l.count - l.first)
