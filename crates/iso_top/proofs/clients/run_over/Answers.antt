use Rattle.iso_top.proofs.Words.{sym, subst, port_moments, port_view, Came, HaveEnded}

pub returns-in-Ok-clause-ended : Rattle.iso_top.proofs.clients.run_over.Goals.returns-in-Ok-clause-ended
returns-in-Ok-clause-ended g c =
    let state = g.I.Disk.state in
    let entries = (port_view c.par_lines-end.new.port).seen in
    let moments = port_moments c.par_lines-end.new.port in
    record {
      entries = entries;
      ended = c.par_lines-end.ensures.ended;
      legal = c.close-core.ensures.legal;
      isolated = c.close-core.ensures.isolated;
      core = c.close-core.result;
      holds = c.close-core.ensures.core;
      image_is = c.into_disk-in-Ok.ensures;
      came = subst (λ d. Came g.O.Origin.start g.O.Origin.disk (state d) entries) (sym c.into_disk-in-Ok.ensures) c.close-core.ensures.came;
      moments = moments;
      turns = subst (λ d. HaveEnded g.I.Disk.state g.O.Origin.start g.O.Origin.disk (state d) entries moments) (sym c.into_disk-in-Ok.ensures) c.close-core.ensures.ended;
    }
