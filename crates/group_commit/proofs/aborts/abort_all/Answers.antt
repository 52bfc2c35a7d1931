use Rattle.group_commit.proofs.{Words.{ap, arith, length, sym, ◌∙◌, ◌∷◌, ◌≡◌, [], into_iter_items, prefix_self, port_view, aborts_of}, Grouping.{all_gone, goes_on, knows_more, nothing_left}}

pub loop-tx-preserved : Rattle.group_commit.proofs.aborts.abort_all.Goals.loop-tx-preserved
loop-tx-preserved g c =
    let A = g.O.Origin.start in
    let at = c.loop-tx in
    let t = c.in-Some.tx in
    let rest = into_iter_items c.next.new.self in
    let items : into_iter_items at.rest ≡ t ∷ rest = c.in-Some.ensures.items in
    let size = ap length items in
    let was = at.invariant.len in
    let gone = c.in-Some.ensures.len in
    let units = rw items at at.invariant.units in
    let back = c.abort.ensures.units in
    record {
      port = c.abort.ensures.port;
      len = omega (arith, size, was, gone);
      txs = (rw items at at.invariant.txs).1;
      units = omega (arith, units, back);
      did = goes_on A (port_view c.args.port.now) (port_view at.port) (port_view c.abort.new.port) c.args.txs.items t rest (aborts_of c.args.txs.items) c.abort.ensures.made (rw items at at.invariant.did);
      told = knows_more A c.args.txs.items (port_view at.port) (port_view c.abort.new.port) t rest c.abort.ensures.made (rw items at at.invariant.told);
    }

pub returns-clause-did : Rattle.group_commit.proofs.aborts.abort_all.Goals.returns-clause-did
returns-clause-did g c =
    let at = c.loop-tx in
    let none : into_iter_items at.rest ≡ [] = nothing_left _ (sym at.invariant.len ∙ c.in_default.ensures.cases.0) in
    all_gone g.O.Origin.start (port_view c.args.port.now) (port_view at.port) c.args.txs.items (aborts_of c.args.txs.items) (rw none at at.invariant.did)

pub returns-clause-told : Rattle.group_commit.proofs.aborts.abort_all.Goals.returns-clause-told
returns-clause-told g c =
    let at = c.loop-tx in
    let none : into_iter_items at.rest ≡ [] = nothing_left _ (sym at.invariant.len ∙ c.in_default.ensures.cases.0) in
    (rw none at at.invariant.told) (port_view at.port).seen (prefix_self (port_view at.port).seen) tt
