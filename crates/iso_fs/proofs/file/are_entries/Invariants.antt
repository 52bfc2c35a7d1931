use Rattle.iso_fs.proofs.Words.{◌≡◌, ◌-◌, all_from, are_entries, entry_at, is_handed}

-- the numbers that are left decide
abbrev pub invariant-loop-i : Rattle.iso_fs.proofs.file.are_entries.Given.invariant-loop-i
invariant-loop-i l = all_from (λ i. is_handed l.blocks (entry_at l.file i)) l.i (l.count - l.i) ≡ are_entries l.blocks l.file l.count
