use Rattle.store_laws.proofs.Longer.{begins_by_both, stays_by_both}

pub returns-clause-begun : Rattle.store_laws.proofs.laws.histories_of_two_stores_stay_by_calls.Goals.returns-clause-begun
returns-clause-begun g c = begins_by_both (g.S.RegionStore.store c.args.first.now) (g.T.RegionStore.store c.args.second.now)

pub returns-clause-appended : Rattle.store_laws.proofs.laws.histories_of_two_stores_stay_by_calls.Goals.returns-clause-appended
returns-clause-appended g c = stays_by_both (g.S.RegionStore.store c.args.first.now) (g.T.RegionStore.store c.args.second.now)
