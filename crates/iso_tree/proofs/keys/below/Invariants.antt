use Rattle.iso_tree.proofs.Words.{◌≡◌, ◌+◌, ◌-◌, below_from}

-- those passed and those that are left
abbrev pub invariant-loop-cell : Rattle.iso_tree.proofs.keys.below.Given.invariant-loop-cell
invariant-loop-cell l = (l.cell - l.first) + below_from l.key l.keys.bytes.now l.cell (l.count - l.cell) ≡ below_from l.key l.keys.bytes.now l.first (l.count - l.first)
