use Rattle.store_laws.proofs.{Programs.spare_where_apart, TwoStores.{both_answer, both_commit_answers, both_shown_answer}}

pub returns : Rattle.store_laws.proofs.laws.calls_of_two_stores_answer_in_order.Goals.returns
returns g c = record {
  commit = both_commit_answers (g.S.RegionStore.store c.args.first.now) (g.T.RegionStore.store c.args.second.now) (g.S.RegionStore.regional c.args.first.now) (g.T.RegionStore.regional c.args.second.now);
  history = both_answer (g.S.RegionStore.store c.args.first.now) (g.T.RegionStore.store c.args.second.now) (g.S.RegionStore.regional c.args.first.now) (g.T.RegionStore.regional c.args.second.now);
  live = both_shown_answer (g.S.RegionStore.store c.args.first.now) (g.T.RegionStore.store c.args.second.now) (g.S.RegionStore.regional c.args.first.now) (g.T.RegionStore.regional c.args.second.now);
  apart = spare_where_apart (g.S.RegionStore.store c.args.first.now) (g.T.RegionStore.store c.args.second.now);
}
