use Rattle.par_lines.proofs.{Words.{◌≡◌, ◌+◌, ◌∷◌, [], ap, arith, false, length, length-append, map, ◌∙◌, sum_by, lines_of, units_in, IsNew}, Dealing.{all_more, ids_turn}, Gathering.{all_last, units_more}}

pub new_job-requires-clause-own : Rattle.par_lines.proofs.par.make_jobs.Goals.new_job-requires-clause-own
new_job-requires-clause-own g c =
    (all_last (λ a. a.1.items ≡ lines_of a.0 c.args.lines.now.value.items) c.loop-id.dealt.items c.pop.new.self.items (c.in-Some.id, c.in-Some.own) c.in-Some.ensures.items c.loop-id.invariant.dealt).0

pub loop-id-preserved : Rattle.par_lines.proofs.par.make_jobs.Goals.loop-id-preserved
loop-id-preserved g c =
    let size : length c.loop-id.dealt.items ≡ length c.pop.new.self.items + 1 = ap length c.in-Some.ensures.items ∙ length-append c.pop.new.self.items ((c.in-Some.id, c.in-Some.own) ∷ []) in
    let more : length c.push_reserved.new.self.items ≡ length c.loop-id.jobs.items + 1 = ap length c.push_reserved.ensures.items ∙ length-append c.loop-id.jobs.items (c.new_job.result ∷ []) in
    let sums : sum_by units_in c.push_reserved.new.self.items ≡ sum_by units_in c.loop-id.jobs.items + units_in c.new_job.result = units_more units_in c.push_reserved.new.self.items c.loop-id.jobs.items c.new_job.result c.push_reserved.ensures.items in
    record {
      port = c.new_job.ensures.port;
      mine = c.new_job.ensures.mine ∙ c.loop-id.invariant.mine;
      enough = omega (arith, size, c.loop-id.invariant.enough, c.new_job.ensures.units);
      units = omega (arith, sums, c.loop-id.invariant.units, c.new_job.ensures.units, c.new_job.ensures.given);
      dealt = (all_last (λ a. a.1.items ≡ lines_of a.0 c.args.lines.now.value.items) c.loop-id.dealt.items c.pop.new.self.items (c.in-Some.id, c.in-Some.own) c.in-Some.ensures.items c.loop-id.invariant.dealt).1;
      room = omega (arith, size, more, c.loop-id.invariant.room, c.push_reserved.ensures.capacity);
      few = omega (arith, size, more, c.loop-id.invariant.few);
      new = all_more (λ j. IsNew g.O.Origin.start c.args.shared.now c.args.lines.now.value.items j) false c.loop-id.jobs.items c.push_reserved.new.self.items c.new_job.result c.push_reserved.ensures.items c.new_job.ensures.new c.loop-id.invariant.new;
      clients = ids_turn (map (λ a. a.0) c.args.dealt.items) c.loop-id.dealt.items c.pop.new.self.items (c.in-Some.id, c.in-Some.own) c.loop-id.jobs.items c.push_reserved.new.self.items c.new_job.result c.in-Some.ensures.items c.push_reserved.ensures.items c.new_job.ensures.id c.loop-id.invariant.clients;
    }
