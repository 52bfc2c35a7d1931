use Rattle.iso_tree.proofs.Words.{◌≡◌, ◌*◌, ◌-◌, drop, list_all, parts_of, is_part_at}

-- all pass where those that are left do
abbrev pub invariant-loop-i : Rattle.iso_tree.proofs.visit.are_parts.Given.invariant-loop-i
invariant-loop-i l = list_all (is_part_at l.area l.level) (parts_of l.values l.many) ≡ list_all (is_part_at l.area l.level) (parts_of (drop (33 * l.i) l.values) (l.many - l.i))
