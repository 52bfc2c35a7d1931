use Rattle.group_commit.proofs.Words.{◌≡◌, ◌++◌, ◌≤◌, length, spread}

abbrev pub invariant-loop-mark : Rattle.group_commit.proofs.answers.spread_all.Given.invariant-loop-mark
invariant-loop-mark l = record {
  told : l.told.items ++ spread l.left l.rest ≡ spread l.fn.marks l.fn.replies;
  room : length l.left ≤ l.told.room;
}

abbrev pub decreases-loop-mark : Rattle.group_commit.proofs.answers.spread_all.Given.decreases-loop-mark
decreases-loop-mark l = length l.left
