use Rattle.group_commit.proofs.Words.{◌≡◌, ◌++◌, ◌≤◌, [], length, marks_of, spread}

abbrev pub invariant-loop-others : Rattle.group_commit.proofs.answers.tell_none.Given.invariant-loop-others
invariant-loop-others g l = record {
  told : l.told.items ++ spread (marks_of l.left) [] ≡ spread (marks_of l.fn.members) [];
  room : length l.left ≤ l.told.room;
}

abbrev pub decreases-loop-others : Rattle.group_commit.proofs.answers.tell_none.Given.decreases-loop-others
decreases-loop-others g l = length l.left
