use Rattle.group_commit.proofs.{Words.{◌≡◌, length, into_iter_items, into_iter_len, port_view, AreMembers, aborts_of, found_in, units_all, IsPort}, Grouping.{GoesOn, KnowsMore}}

abbrev pub invariant-loop-member : Rattle.group_commit.proofs.aborts.abort_found.Given.invariant-loop-member
invariant-loop-member g l = record {
  port : IsPort l.shared l.port;
  len : into_iter_len l.rest ≡ length (into_iter_items l.rest);
  members : AreMembers l.shared g.O.Origin.start (into_iter_items l.rest);
  units : units_all (port_view l.port) (found_in (into_iter_items l.rest)) ≡ units_all (port_view l.fn.port) (found_in l.fn.members.items);
  did : GoesOn g.O.Origin.start (port_view l.fn.port) (found_in l.fn.members.items) (aborts_of (found_in l.fn.members.items)) (port_view l.port) (found_in (into_iter_items l.rest)) (aborts_of (found_in (into_iter_items l.rest)));
  told : KnowsMore (found_in l.fn.members.items) (port_view l.port) (found_in (into_iter_items l.rest));
}

abbrev pub decreases-loop-member : Rattle.group_commit.proofs.aborts.abort_found.Given.decreases-loop-member
decreases-loop-member g l = into_iter_len l.rest
