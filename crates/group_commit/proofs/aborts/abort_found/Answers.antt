use Rattle.group_commit.proofs.{Words.{ap, arith, length, sym, None, Some, ◌∙◌, ◌∷◌, ◌≡◌, [], into_iter_items, prefix_self, port_view, aborts_of, found_in}, Grouping.{all_gone, goes_on, knows_more, nothing_left}}

pub loop-member-preserved-in-Some-member : Rattle.group_commit.proofs.aborts.abort_found.Goals.loop-member-preserved-in-Some-member
loop-member-preserved-in-Some-member g c =
    let A = g.O.Origin.start in
    let at = c.loop-member in
    let t = c.in-Some-member.tx in
    let rest = into_iter_items c.next.new.self in
    let items : into_iter_items at.rest ≡ Some t ∷ rest = c.in-Some.ensures.items ∙ ap (λ m. m ∷ rest) c.in-Some-member.is in
    let size = ap length items in
    let was = at.invariant.len in
    let gone = c.in-Some.ensures.len in
    let units = rw items at at.invariant.units in
    let back = c.abort.ensures.units in
    record {
      port = c.abort.ensures.port;
      len = omega (arith, size, was, gone);
      members = (rw items at at.invariant.members).1;
      units = omega (arith, units, back);
      did = goes_on A (port_view c.args.port.now) (port_view at.port) (port_view c.abort.new.port) (found_in c.args.members.items) t (found_in rest) (aborts_of (found_in c.args.members.items)) c.abort.ensures.made
          (rw items at at.invariant.did);
      told = knows_more A (found_in c.args.members.items) (port_view at.port) (port_view c.abort.new.port) t (found_in rest) c.abort.ensures.made (rw items at at.invariant.told);
    }

pub loop-member-preserved : Rattle.group_commit.proofs.aborts.abort_found.Goals.loop-member-preserved
loop-member-preserved g c =
    let at = c.loop-member in
    let rest = into_iter_items c.next.new.self in
    let items : into_iter_items at.rest ≡ None ∷ rest = c.in-Some.ensures.items ∙ ap (λ m. m ∷ rest) c.in_default-member.is in
    let size = ap length items in
    let was = at.invariant.len in
    let gone = c.in-Some.ensures.len in
    record {
      port = at.invariant.port;
      len = omega (arith, size, was, gone);
      members = (rw items at at.invariant.members).1;
      units = rw items at at.invariant.units;
      did = rw items at at.invariant.did;
      told = rw items at at.invariant.told;
    }

pub returns-clause-did : Rattle.group_commit.proofs.aborts.abort_found.Goals.returns-clause-did
returns-clause-did g c =
    let at = c.loop-member in
    let none : into_iter_items at.rest ≡ [] = nothing_left _ (sym at.invariant.len ∙ c.in_default.ensures.cases.0) in
    all_gone g.O.Origin.start (port_view c.args.port.now) (port_view at.port) (found_in c.args.members.items) (aborts_of (found_in c.args.members.items)) (rw none at at.invariant.did)

pub returns-clause-told : Rattle.group_commit.proofs.aborts.abort_found.Goals.returns-clause-told
returns-clause-told g c =
    let at = c.loop-member in
    let none : into_iter_items at.rest ≡ [] = nothing_left _ (sym at.invariant.len ∙ c.in_default.ensures.cases.0) in
    (rw none at at.invariant.told) (port_view at.port).seen (prefix_self (port_view at.port).seen) tt
