use Rattle.group_commit.proofs.Words.{◌≡◌, ◌++◌, ◌+◌, ◌≤◌, length, into_iter_items, into_iter_len, vec_capacity, found_in, marks_of}

abbrev pub invariant-loop-member : Rattle.group_commit.proofs.members.gather.Given.invariant-loop-member
invariant-loop-member g l = record {
  len : into_iter_len l.rest ≡ length (into_iter_items l.rest);
  group : l.group.items ++ found_in (into_iter_items l.rest) ≡ found_in l.fn.members.items;
  marks : l.marks.items ++ marks_of (into_iter_items l.rest) ≡ marks_of l.fn.members.items;
  room : length l.group.items + length (into_iter_items l.rest) ≤ vec_capacity l.group;
  places : length (into_iter_items l.rest) ≤ l.marks.room;
}

abbrev pub decreases-loop-member : Rattle.group_commit.proofs.members.gather.Given.decreases-loop-member
decreases-loop-member g l = into_iter_len l.rest
