use Rattle.iso_alloc.proofs.Words.{◌≡◌, ◌-◌, ◌==◌, ◌||◌, all_from, is_unused, is_alone}

-- the cells that are left decide
abbrev pub invariant-loop-other : Rattle.iso_alloc.proofs.search.is_alone.Given.invariant-loop-other
invariant-loop-other l = all_from (λ i. (i == l.cell) || is_unused l.keys i) l.other (l.other-end - l.other) ≡ is_alone l.size l.keys l.cell
