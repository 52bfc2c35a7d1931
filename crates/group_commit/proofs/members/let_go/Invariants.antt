use Rattle.group_commit.proofs.Words.{◌≡◌, [], length, into_iter_items, into_iter_len, found_in}

abbrev pub invariant-loop-member : Rattle.group_commit.proofs.members.let_go.Given.invariant-loop-member
invariant-loop-member g l = record {
  len : into_iter_len l.rest ≡ length (into_iter_items l.rest);
  none : found_in (into_iter_items l.rest) ≡ [];
}

abbrev pub decreases-loop-member : Rattle.group_commit.proofs.members.let_go.Given.decreases-loop-member
decreases-loop-member g l = into_iter_len l.rest
