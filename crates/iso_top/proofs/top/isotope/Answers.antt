use Rattle.iso_top.proofs.{Words.{sym, subst, Task, HasMet}, Causes.met_all}

pub returns-in-Par-clause-complete : Rattle.iso_top.proofs.top.isotope.Goals.returns-in-Par-clause-complete
returns-in-Par-clause-complete g c =
    let state = g.I.Disk.state in
    let input_old = g.S.Source.state c.args.input.now in
    let input_new = g.S.Source.state c.run_clients.new.input in
    let old = g.K.Sink.state c.args.output.now in
    let new = g.K.Sink.state c.run_clients.new.output in
    let name = c.in-Ok-Some.request.image.now in
    let met = subst (λ (task : Task). HasMet state task name c.run_clients.result.status c.args.image c.run_clients.result.image input_old input_new old new) (sym c.in-Par.is) c.run_clients.ensures in
    rw (sym c.in-Ok-Some.ensures.request) (rw c.in-Ok-Some.field-0-is
    (λ accepted good d i o. met_all state name c.run_clients.result.status c.args.image c.run_clients.result.image input_old input_new old new d i o c.in-Ok-Some.request.task accepted good met))
