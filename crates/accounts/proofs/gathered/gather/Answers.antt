use Rattle.accounts.proofs.{Words.{subst, port_view, times, IsPortAt, opening_of}, Covering.{covers_both, covers_on}, Keeping.finished}

pub join-requires-clause-from : Rattle.accounts.proofs.gathered.gather.Goals.join-requires-clause-from
join-requires-clause-from g c = subst (λ d. IsPortAt d c.finish-from.result) c.requires.session.1 c.finish-from.ensures.port

pub returns-clause-port : Rattle.accounts.proofs.gathered.gather.Goals.returns-clause-port
returns-clause-port g c =
    let A = g.O.Origin.start in
    let accounts = opening_of c.args.accounts.now in
    let v = port_view c.args.port.now in
    let u = port_view c.finish-from.result in
    let w = port_view c.join.new.into in (
      c.join.ensures.into,
      covers_both accounts A w.seen (λ p. times p v.mine) (λ p. times p u.mine) (λ p. times p w.mine) c.join.ensures.places
          (covers_on accounts A v.seen w.seen (λ p. times p v.mine) c.join.ensures.seen.0 c.requires.port.1)
          (covers_on accounts A u.seen w.seen (λ p. times p u.mine) c.join.ensures.seen.1 (finished accounts A c.args.session c.args.session.own u c.finish-from.ensures.did c.requires.session.0.covers)),
    )
