use Rattle.store_laws.proofs.BothGrowth.{both_begun, both_committed, both_other, both_refused, first_called, second_called}

pub returns : Rattle.store_laws.proofs.laws.transactions_of_two_stores_grow_by_parts.Goals.returns
returns g c = record {
  begun = both_begun (g.S.RegionStore.store c.args.first.now) (g.T.RegionStore.store c.args.second.now);
  first = λ x y call answer done further local spare A parts is.
      first_called (g.S.RegionStore.store c.args.first.now) (g.T.RegionStore.store c.args.second.now) A x y parts call answer done is further local spare;
  second = λ x y call answer done further local spare A parts is.
      second_called (g.S.RegionStore.store c.args.first.now) (g.T.RegionStore.store c.args.second.now) A x y parts call answer done is further local spare;
  other = λ x y done further one two A parts is. both_other (g.S.RegionStore.store c.args.first.now) (g.T.RegionStore.store c.args.second.now) A x y parts done is further one two;
  refused = λ x y read A parts is. both_refused (g.S.RegionStore.store c.args.first.now) (g.T.RegionStore.store c.args.second.now) A x y parts is read;
  committed = both_committed (g.S.RegionStore.store c.args.first.now) (g.T.RegionStore.store c.args.second.now);
}
