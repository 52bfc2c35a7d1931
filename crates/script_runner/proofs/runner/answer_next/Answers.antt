use Rattle.script_runner.{proofs.Words.{◌≡◌, ◌<◌, ◌≤◌, ◌+◌, ◌++◌, ℕ, List, length, take, length-append, length-take, refl, subst, sym, arith, MAX_INPUT, MAX_LINE, RunEnd, Gave, HasRun}, specs.declared.run_end.Halt.TheVariants.{BadLine, Output}, proofs.{Answering.held_ends, Endings.{gave_more, halt_runs, input_runs, long_ends}}}

fits : (bytes piece into : List ℕ) (count : ℕ) → length into ≡ length piece → length bytes + length piece ≤ MAX_INPUT → length (bytes ++ take count into) ≤ MAX_INPUT
fits bytes piece into count same few = omega (arith, same, few, length-append bytes (take count into), length-take count into)

pub returns-in-Err-clause-ends : Rattle.script_runner.proofs.runner.answer_next.Goals.returns-in-Err-clause-ends
returns-in-Err-clause-ends g c W m i k bytes gave few r =
    halt_runs i (g.S.Source.state c.args.input.now) W bytes gave (omega (arith, few)) Output
    (held_ends W bytes c.args.progress.now.number c.args.progress.now.held.items r c.in-Err.ensures.breaks (c.in-Err.ensures.cause.failed refl))

pub returns-in-Err-take-clause-ends : Rattle.script_runner.proofs.runner.answer_next.Goals.returns-in-Err-take-clause-ends
returns-in-Err-take-clause-ends g c W m i k bytes gave few r =
    input_runs W bytes c.args.progress.now.number c.args.progress.now.held.items (rw (← c.in_default.ensures.stands) at r) i (g.S.Source.state c.args.input.now) (g.S.Source.state c.take.new.self) gave
    (omega (arith, few, c.requires.room)) c.in-Err-take.ensures.err (c.in-Err-take.ensures.cause.failed refl)

pub returns-in-Err-answer_piece-clause-ends : Rattle.script_runner.proofs.runner.answer_next.Goals.returns-in-Err-answer_piece-clause-ends
returns-in-Err-answer_piece-clause-ends g c W m i k bytes gave few r =
    let piece = take c.in-Ok.count c.take.new.into in
    let given : Gave (g.S.Source.state c.args.input.now) (g.S.Source.state c.take.new.self) piece = record { took = c.in-Ok.ensures.bytes; faults = c.in-Ok.ensures.cause.passed } in
    subst (λ (how : RunEnd). HasRun (g.M.ScriptMachine.stands c.answer_piece.new.machine) (g.M.ScriptMachine.disk m) (g.M.ScriptMachine.disk c.answer_piece.new.machine) i (g.S.Source.state c.take.new.self) k (g.K.Sink.state c.answer_piece.new.output) W how)
    (sym c.end_of.ensures)
    (halt_runs i (g.S.Source.state c.take.new.self) W (bytes ++ piece) (gave_more i (g.S.Source.state c.args.input.now) (g.S.Source.state c.take.new.self) bytes piece gave given)
    (fits bytes c.args.piece.now c.take.new.into c.in-Ok.count c.take.auto.into few) c.in-Err-answer_piece.halt (c.in-Err-answer_piece.ensures.answers.ends W m k bytes (rw (← c.in_default.ensures.stands) at r)))

pub returns-then-len-gt-MAX_LINE-clause-ends : Rattle.script_runner.proofs.runner.answer_next.Goals.returns-then-len-gt-MAX_LINE-clause-ends
returns-then-len-gt-MAX_LINE-clause-ends g c W m i k bytes gave few r =
    let piece = take c.in-Ok.count c.take.new.into in
    let held = c.answer_piece.new.progress.held in
    let given : Gave (g.S.Source.state c.args.input.now) (g.S.Source.state c.take.new.self) piece = record { took = c.in-Ok.ensures.bytes; faults = c.in-Ok.ensures.cause.passed } in
    let long : MAX_LINE < length held.items = omega (arith, c.if-len-gt-MAX_LINE.true, c.len.ensures, held.ok.0) in
    halt_runs i (g.S.Source.state c.take.new.self) W (bytes ++ piece) (gave_more i (g.S.Source.state c.args.input.now) (g.S.Source.state c.take.new.self) bytes piece gave given)
    (fits bytes c.args.piece.now c.take.new.into c.in-Ok.count c.take.auto.into few) (BadLine (record { line = c.answer_piece.new.progress.number; cause = 7 }))
    (long_ends W (bytes ++ piece) c.answer_piece.new.progress.number held.items (c.in_default-answer_piece.ensures.answers.reads W m k bytes (rw (← c.in_default.ensures.stands) at r)) long)

pub returns-clause-answers : Rattle.script_runner.proofs.runner.answer_next.Goals.returns-clause-answers
returns-clause-answers g c = record {
  world = c.in_default-answer_piece.ensures.answers.world;
  reads = λ W m k bytes r. c.in_default-answer_piece.ensures.answers.reads W m k bytes (rw (← c.in_default.ensures.stands) at r);
  ends = λ W m k bytes r. tt;
}
