use Rattle.iso_tree.proofs.Words.{◌≡◌, ◌*◌, ◌-◌, ◌≤◌, ◌++◌, drop, map, parts_of, child_of}

-- the last children stand before the nodes that were unread
abbrev pub invariant-loop-i : Rattle.iso_tree.proofs.range.add_children.Given.invariant-loop-i
invariant-loop-i l = record {
  nodes : l.unread ≡ map (λ part. (l.level, child_of part)) (parts_of (drop (33 * l.i) l.values) (l.many - l.i)) ++ l.fn.unread;
  few : l.i ≤ l.many;
}

abbrev pub decreases-loop-i : Rattle.iso_tree.proofs.range.add_children.Given.decreases-loop-i
decreases-loop-i l = l.i
