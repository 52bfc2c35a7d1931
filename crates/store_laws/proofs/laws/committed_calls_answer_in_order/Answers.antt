use Rattle.store_laws.proofs.Histories.{calls_answer, commit_answers, shown_answers}

pub returns : Rattle.store_laws.proofs.laws.committed_calls_answer_in_order.Goals.returns
returns g c = record {
  commit = commit_answers (g.S.RegionStore.store c.args.store.now) (g.S.RegionStore.regional c.args.store.now);
  history = calls_answer (g.S.RegionStore.store c.args.store.now) (g.S.RegionStore.regional c.args.store.now);
  live = shown_answers (g.S.RegionStore.store c.args.store.now) (g.S.RegionStore.regional c.args.store.now);
}
