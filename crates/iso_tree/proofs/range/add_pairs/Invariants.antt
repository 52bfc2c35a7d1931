use Rattle.iso_tree.proofs.Words.{◌≡◌, ◌+◌, ◌*◌, ◌-◌, ◌++◌, true, length, take, drop, list_all, is_part, pairs_with, parts_of}

-- the pairs that are found, and those of the cells that are left
abbrev pub invariant-loop-i : Rattle.iso_tree.proofs.range.add_pairs.Given.invariant-loop-i
invariant-loop-i l = record {
  pairs : l.found ++ take (l.max - length l.found) (pairs_with l.keys.bytes.now (l.visit.first + l.i) (parts_of (drop (33 * l.i) l.values) (l.visit.many - l.i)))
      ≡ l.fn.found ++ take (l.max - length l.fn.found) (pairs_with l.keys.bytes.now l.visit.first (parts_of l.values l.visit.many));
  texts : list_all (is_part 32) (parts_of (drop (33 * l.i) l.values) (l.visit.many - l.i)) ≡ true;
}
