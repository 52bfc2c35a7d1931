use Rattle.group_commit.proofs.{Words.{◌≡◌, length, into_iter_items, into_iter_len, port_view, AreTxs, aborts_of, units_all, IsPort}, Grouping.{GoesOn, KnowsMore}}

abbrev pub invariant-loop-tx : Rattle.group_commit.proofs.aborts.abort_all.Given.invariant-loop-tx
invariant-loop-tx g l = record {
  port : IsPort l.shared l.port;
  len : into_iter_len l.rest ≡ length (into_iter_items l.rest);
  txs : AreTxs l.shared g.O.Origin.start (into_iter_items l.rest);
  units : units_all (port_view l.port) (into_iter_items l.rest) ≡ units_all (port_view l.fn.port) l.fn.txs.items;
  did : GoesOn g.O.Origin.start (port_view l.fn.port) l.fn.txs.items (aborts_of l.fn.txs.items) (port_view l.port) (into_iter_items l.rest) (aborts_of (into_iter_items l.rest));
  told : KnowsMore l.fn.txs.items (port_view l.port) (into_iter_items l.rest);
}

abbrev pub decreases-loop-tx : Rattle.group_commit.proofs.aborts.abort_all.Given.decreases-loop-tx
decreases-loop-tx g l = into_iter_len l.rest
