use Rattle.store_laws.proofs.{Growth.{begun, called, other, refused}, Longer.commits_by_calls}

pub returns : Rattle.store_laws.proofs.laws.transactions_grow_by_parts.Goals.returns
returns g c = record {
  begun = begun (g.S.RegionStore.store c.args.store.now);
  called = λ t u call answer done further local A parts is. called (g.S.RegionStore.store c.args.store.now) A t u parts call answer done is further local;
  other = λ t u done further spare A parts is. other (g.S.RegionStore.store c.args.store.now) A t u parts done is further spare;
  refused = λ t u read A parts is. refused (g.S.RegionStore.store c.args.store.now) A t u parts is read;
  committed = commits_by_calls (g.S.RegionStore.store c.args.store.now);
}
