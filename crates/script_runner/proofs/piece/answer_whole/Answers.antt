use Rattle.script_runner.proofs.{Words.{parse_whole, placed}, Answering.{ends_line, reads_line, stands_on}, Said.{given_line, whole_says_line}}

pub answer_parsed-answered-requires-clause-line : Rattle.script_runner.proofs.piece.answer_whole.Goals.answer_parsed-answered-requires-clause-line
answer_parsed-answered-requires-clause-line g c = given_line (parse_whole _) (placed c.parse_held-read.result c.parse_held-read.new.into) c.parse_held-read.ensures.parsed (whole_says_line _)

pub returns-clause-answers : Rattle.script_runner.proofs.piece.answer_whole.Goals.returns-clause-answers
returns-clause-answers g c = record {
  world = stands_on (g.M.ScriptMachine.stands c.answer_parsed-answered.new.machine) (g.M.ScriptMachine.disk c.args.machine.now) (g.M.ScriptMachine.disk c.answer_parsed-answered.new.machine)
      (g.K.Sink.state c.args.output.now) (g.K.Sink.state c.answer_parsed-answered.new.output) c.requires.stands.0 c.args.progress.now.number (placed c.parse_held-read.result c.parse_held-read.new.into) c.in_default.field-0
      (c.in_default.ensures c.requires.stands.0 c.requires.stands.1);
  reads = λ W m k bytes r.
      reads_line (g.M.ScriptMachine.stands c.answer_parsed-answered.new.machine) (g.M.ScriptMachine.disk c.answer_parsed-answered.new.machine) (g.K.Sink.state c.answer_parsed-answered.new.output)
      W bytes c.args.progress.now.number c.args.progress.now.held.items c.args.line.now c.requires.line r (placed c.parse_held-read.result c.parse_held-read.new.into) c.in_default.field-0 c.parse_held-read.new.held.items
      c.parse_held-read.ensures.parsed c.parse_held-read.ensures.held (c.in_default.ensures r.ran.reached r.ran.world);
  ends = λ W m k bytes r. tt;
}

pub returns-in-Err-clause-answers : Rattle.script_runner.proofs.piece.answer_whole.Goals.returns-in-Err-clause-answers
returns-in-Err-clause-answers g c = record {
  world = tt;
  reads = λ W m k bytes r. tt;
  ends = λ W m k bytes r.
      ends_line (g.M.ScriptMachine.stands c.answer_parsed-answered.new.machine) (g.M.ScriptMachine.disk c.answer_parsed-answered.new.machine) (g.K.Sink.state c.answer_parsed-answered.new.output)
      W bytes c.args.progress.now.number c.args.progress.now.held.items c.args.line.now c.requires.line r (placed c.parse_held-read.result c.parse_held-read.new.into) c.in-Err.halt
      c.parse_held-read.ensures.parsed (c.in-Err.ensures r.ran.reached r.ran.world);
}
