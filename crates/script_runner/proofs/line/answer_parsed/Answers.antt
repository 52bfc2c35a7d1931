use Rattle.script_runner.proofs.{Words.{◌∙◌, Ok, ap, placed}, Answering.answered_line, Steps.ran_none}

pub returns-in-Skip : Rattle.script_runner.proofs.line.answer_parsed.Goals.returns-in-Skip
returns-in-Skip g c W stood =
    let law = g.met.M.ScriptMachine in
    rw (c.in_default.is, c.in-Skip.is) (ran_none W (law.lawful c.args.machine.now) (law.sound c.args.machine.now W stood) stood (λ d here. law.shown c.args.machine.now W d stood here))

pub returns-in-Line : Rattle.script_runner.proofs.line.answer_parsed.Goals.returns-in-Line
returns-in-Line g c W stood =
    answered_line (g.M.ScriptMachine.stands c.answer_line.new.machine) (g.M.ScriptMachine.disk c.args.machine.now) (g.M.ScriptMachine.disk c.answer_line.new.machine) (g.K.Sink.state c.args.output.now) (g.K.Sink.state c.answer_line.new.output)
    W c.args.number c.in-Line.line c.answer_line.result (c.answer_line.ensures W c.args.number stood)
    (placed c.args.read c.args.parsed.now) (ap (λ r. placed r c.args.parsed.now) c.in_default.is ∙ ap Ok c.in-Line.is)

pub returns-in-Err : Rattle.script_runner.proofs.line.answer_parsed.Goals.returns-in-Err
returns-in-Err g c W stood =
    let law = g.met.M.ScriptMachine in
    rw c.in-Err.is
    (c.halt_of.ensures, ran_none W (law.lawful c.args.machine.now) (law.sound c.args.machine.now W stood) stood (λ d here. law.shown c.args.machine.now W d stood here))
