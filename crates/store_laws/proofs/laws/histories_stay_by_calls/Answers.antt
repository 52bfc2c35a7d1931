use Rattle.store_laws.proofs.Longer.{begins_by_calls, stays_by_calls}

pub returns-clause-begun : Rattle.store_laws.proofs.laws.histories_stay_by_calls.Goals.returns-clause-begun
returns-clause-begun g c = begins_by_calls (g.S.RegionStore.store c.args.store.now)

pub returns-clause-appended : Rattle.store_laws.proofs.laws.histories_stay_by_calls.Goals.returns-clause-appended
returns-clause-appended g c = stays_by_calls (g.S.RegionStore.store c.args.store.now)
