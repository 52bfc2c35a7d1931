use Rattle.script_runner.proofs.{Words.{◌<◌, ℕ, List, length, subst, sym, ◌∙◌, parse, Gives, placed, RunEnd, HasRun}, Endings.{done_runs, last_done, last_runs, none_held, some_held}, Said.{given_line, says_line}}

pub returns-then-is_empty : Rattle.script_runner.proofs.runner.answer_last.Goals.returns-then-is_empty
returns-then-is_empty g c W m i j k bytes gave met few r =
    done_runs W bytes c.args.progress.now.number c.args.progress.now.held.items r i j gave met few
    (none_held _ c.args.progress.now.held.items c.args.progress.now.held.ok.0 (sym c.if-is_empty.true ∙ c.is_empty.ensures))

pub answer_parsed-requires-clause-line : Rattle.script_runner.proofs.runner.answer_last.Goals.answer_parsed-requires-clause-line
answer_parsed-requires-clause-line g c = given_line (parse _) (placed c.parse_line_into-read.result c.parse_line_into-read.new.into) c.parse_line_into-read.ensures (says_line _)

pub returns-in-Ok : Rattle.script_runner.proofs.runner.answer_last.Goals.returns-in-Ok
returns-in-Ok g c W m i j k bytes gave met few r =
    let given : Gives (placed c.parse_line_into-read.result c.parse_line_into-read.new.into) (parse c.args.progress.now.held.items) =
    subst (λ (xs : List ℕ). Gives (placed c.parse_line_into-read.result c.parse_line_into-read.new.into) (parse xs)) c.deref.ensures.value c.parse_line_into-read.ensures in
    let some : 0 < length c.args.progress.now.held.items = some_held _ c.args.progress.now.held.items c.args.progress.now.held.ok.0 (sym c.if-is_empty.false ∙ c.is_empty.ensures) in
    last_done W bytes c.args.progress.now.number c.args.progress.now.held.items r i j gave met few some (g.M.ScriptMachine.stands c.answer_parsed.new.machine)
    (g.M.ScriptMachine.disk c.answer_parsed.new.machine) (g.K.Sink.state c.answer_parsed.new.output) (placed c.parse_line_into-read.result c.parse_line_into-read.new.into) c.in-Ok.field-0 given (c.in-Ok.ensures r.ran.reached r.ran.world)

pub returns-in-Err : Rattle.script_runner.proofs.runner.answer_last.Goals.returns-in-Err
returns-in-Err g c W m i j k bytes gave met few r =
    let given : Gives (placed c.parse_line_into-read.result c.parse_line_into-read.new.into) (parse c.args.progress.now.held.items) =
    subst (λ (xs : List ℕ). Gives (placed c.parse_line_into-read.result c.parse_line_into-read.new.into) (parse xs)) c.deref.ensures.value c.parse_line_into-read.ensures in
    let some : 0 < length c.args.progress.now.held.items = some_held _ c.args.progress.now.held.items c.args.progress.now.held.ok.0 (sym c.if-is_empty.false ∙ c.is_empty.ensures) in
    subst (λ (how : RunEnd). HasRun (g.M.ScriptMachine.stands c.answer_parsed.new.machine) (g.M.ScriptMachine.disk m) (g.M.ScriptMachine.disk c.answer_parsed.new.machine) i j k (g.K.Sink.state c.answer_parsed.new.output) W how)
    (sym c.end_of.ensures)
    (last_runs W bytes c.args.progress.now.number c.args.progress.now.held.items r i j gave met few some (g.M.ScriptMachine.stands c.answer_parsed.new.machine)
    (g.M.ScriptMachine.disk c.answer_parsed.new.machine) (g.K.Sink.state c.answer_parsed.new.output) (placed c.parse_line_into-read.result c.parse_line_into-read.new.into) c.in-Err.halt given (c.in-Err.ensures r.ran.reached r.ran.world))
