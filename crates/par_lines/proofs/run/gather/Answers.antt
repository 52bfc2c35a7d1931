use Rattle.par_lines.proofs.{Words.{◌≡◌, ◌-◌, ◌++◌, ◌∷◌, [], ap, arith, length, length-append, map, refl, reverse, subst, sym, ◌∙◌, sum_by, times, WithRoom, IsPortAt, port_view, Part, part_of, units_in, AllTold, Finished}, Gathering.{all_last, clients_more, gather_more, joined_units, units_more}}

pub join-requires-clause-from : Rattle.par_lines.proofs.run.gather.Goals.join-requires-clause-from
join-requires-clause-from g c =
    let f = (all_last (Finished g.O.Origin.start c.args.shared.now c.args.lines.now.value.items) c.loop-job.jobs.items c.pop.new.self.items c.in-Some.job c.in-Some.ensures.items c.loop-job.invariant.jobs).0 in
    subst (λ d. IsPortAt d c.finish-from.result) f.device c.finish-from.ensures.port

pub loop-job-preserved : Rattle.par_lines.proofs.run.gather.Goals.loop-job-preserved
loop-job-preserved g c =
    let all = all_last (Finished g.O.Origin.start c.args.shared.now c.args.lines.now.value.items) c.loop-job.jobs.items c.pop.new.self.items c.in-Some.job c.in-Some.ensures.items c.loop-job.invariant.jobs in
    let parts : c.push_within.new.self ≡ record { items = c.loop-job.parts.items ++ part_of c.in-Some.job ∷ []; room = c.loop-job.parts.room - 1 } =
    c.push_within.ensures
    ∙ ap (λ l. record { items = c.loop-job.parts.items ++ record { client = c.in-Some.job.id; told = l; stop = c.in-Some.job.client.stop } ∷ []; room = c.loop-job.parts.room - 1 }) c.into_items.ensures in
    let items : c.push_within.new.self.items ≡ c.loop-job.parts.items ++ part_of c.in-Some.job ∷ [] = ap (λ (w : WithRoom Part). w.items) parts in
    let room : c.push_within.new.self.room ≡ c.loop-job.parts.room - 1 = ap (λ (w : WithRoom Part). w.room) parts in
    let size = ap length c.in-Some.ensures.items ∙ length-append c.pop.new.self.items (c.in-Some.job ∷ []) in
    let enough = c.loop-job.invariant.room in
    record {
      port = c.join.ensures.into;
      units = joined_units (port_view c.join.new.into).units (port_view c.loop-job.port).units (port_view c.finish-from.result).units (units_in c.in-Some.job) (sum_by units_in c.pop.new.self.items) (sum_by units_in c.loop-job.jobs.items) _
          c.join.ensures.units c.finish-from.ensures.units (units_more units_in c.loop-job.jobs.items c.pop.new.self.items c.in-Some.job c.in-Some.ensures.items) c.loop-job.invariant.units;
      jobs = all.1;
      room = omega (arith, room, size, enough);
      clients = subst (λ ps. reverse (map (λ j. j.id) c.args.jobs.items) ≡ map (λ (p : Part). p.client) ps ++ reverse (map (λ j. j.id) c.pop.new.self.items)) (sym items)
          (clients_more (reverse (map (λ j. j.id) c.args.jobs.items)) c.loop-job.parts.items (part_of c.in-Some.job) c.loop-job.jobs.items c.pop.new.self.items c.in-Some.job c.in-Some.ensures.items refl c.loop-job.invariant.clients);
      told = subst (λ ps. AllTold g.O.Origin.start c.args.lines.now.value.items (port_view c.join.new.into).seen ps (λ p. times p (port_view c.join.new.into).mine)) (sym items)
          (gather_more g.O.Origin.start c.args.shared.now c.args.lines.now.value.items c.in-Some.job (port_view c.loop-job.port) (port_view c.join.new.into) (port_view c.finish-from.result) c.loop-job.parts.items all.0 c.finish-from.ensures.did
          c.join.ensures.seen.0 c.join.ensures.seen.1 c.join.ensures.places c.loop-job.invariant.told);
    }
