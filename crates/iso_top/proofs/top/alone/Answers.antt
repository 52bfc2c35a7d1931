use Rattle.iso_top.proofs.{Words.sym, Causes.met_all}

pub returns-in-Ok-Some-clause-complete : Rattle.iso_top.proofs.top.alone.Goals.returns-in-Ok-Some-clause-complete
returns-in-Ok-Some-clause-complete g c =
    rw (sym c.in-Ok-Some.ensures.request) (rw c.in-Ok-Some.field-0-is
    (λ accepted good d i o. met_all g.I.Disk.state c.in-Ok-Some.request.image.now c.meet.result.status c.args.image c.meet.result.image (g.S.Source.state c.args.input.now)
    (g.S.Source.state c.meet.new.input) (g.K.Sink.state c.args.output.now) (g.K.Sink.state c.meet.new.output) d i o c.in-Ok-Some.request.task accepted good c.meet.ensures))
