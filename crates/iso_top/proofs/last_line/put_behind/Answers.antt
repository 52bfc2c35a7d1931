use Rattle.iso_top.proofs.Behind.{behind_whole}

pub returns-in-Ok : Rattle.iso_top.proofs.last_line.put_behind.Goals.returns-in-Ok
returns-in-Ok g c =
    let state = g.K.Sink.state in
    behind_whole (state c.args.output.now) (state c.put_all.new.sink) (state c.put_last.new.output) c.args.text.now c.args.line.now c.in-Ok.ensures.ok c.in-Ok.ensures.passed c.put_last.ensures
