use Rattle.script_runner.proofs.{Words.{◌≡◌, ◌≤◌, ◌++◌, ℕ, List, [], length, take, refl, sym, subst, ap, ◌∙◌, length-append, length-take, append-nil, arith, Gave, Reads}, Endings.{cut_runs, gave_more, gave_none, met_end, reads_none, starved_runs}}
use Rattle.script_runner.proofs.runner.answer_input.Goals as goal

pub loop-left-init : goal.loop-left-init
loop-left-init g c =
    let law = g.met.M.ScriptMachine in
    let m = c.args.machine.now in
    record {
      bytes = [];
      gave = gave_none (g.S.Source.state c.args.input.now);
      count = refl;
      room = c.in-Ok.ensures;
      number = omega arith;
      held = omega (arith, ap length c.new.ensures.items);
      stands = c.requires;
      reads = λ W stood. subst (λ (hs : List ℕ). Reads (g.M.ScriptMachine.stands m) (g.M.ScriptMachine.disk m) (g.M.ScriptMachine.disk m) (g.K.Sink.state c.args.output.now) (g.K.Sink.state c.args.output.now) W [] 1 hs) (sym c.new.ensures.items)
          (reads_none W (law.lawful m) (law.sound m W stood) stood (λ d here. law.shown m W d stood here));
    }

pub returns-in-Err : goal.returns-in-Err
returns-in-Err g c W stood =
    let law = g.met.M.ScriptMachine in
    let m = c.args.machine.now in
    starved_runs (g.S.Source.state c.args.input.now) W (reads_none W (law.lawful m) (law.sound m W stood) stood (λ d here. law.shown m W d stood here))

pub returns-in-Ok-eq0 : goal.returns-in-Ok-eq0
returns-in-Ok-eq0 g c W stood =
    let v = c.loop-left.invariant in
    let none : take c.in-Ok-eq0.field-0 c.answer_next.new.piece ≡ [] = ap (λ n. take n c.answer_next.new.piece) c.in-Ok-eq0.field-0-test in
    let reads = subst (λ (xs : List ℕ). Reads (g.M.ScriptMachine.stands c.answer_next.new.machine) (g.M.ScriptMachine.disk c.args.machine.now) (g.M.ScriptMachine.disk c.answer_next.new.machine) (g.K.Sink.state c.args.output.now) (g.K.Sink.state c.answer_next.new.output) W xs c.answer_next.new.progress.number c.answer_next.new.progress.held.items)
    (ap (λ xs. v.bytes ++ xs) none ∙ append-nil v.bytes)
    (c.in-Ok-eq0.ensures.answers.reads W c.args.machine.now (g.K.Sink.state c.args.output.now) v.bytes (v.reads W stood)) in
    let given : Gave (g.S.Source.state c.args.input.now) (g.S.Source.state c.answer_next.new.input) v.bytes =
    subst (λ (xs : List ℕ). Gave (g.S.Source.state c.args.input.now) (g.S.Source.state c.answer_next.new.input) xs) (ap (λ xs. v.bytes ++ xs) none ∙ append-nil v.bytes)
    (gave_more (g.S.Source.state c.args.input.now) (g.S.Source.state c.loop-left.input) (g.S.Source.state c.answer_next.new.input) v.bytes (take c.in-Ok-eq0.field-0 c.answer_next.new.piece) v.gave c.in-Ok-eq0.ensures.gave) in
    c.answer_last.ensures W c.args.machine.now (g.S.Source.state c.args.input.now) (g.S.Source.state c.answer_next.new.input) (g.K.Sink.state c.args.output.now) v.bytes given
    (met_end (g.S.Source.state c.args.input.now) (g.S.Source.state c.loop-left.input) (g.S.Source.state c.answer_next.new.input) v.bytes v.gave (c.in-Ok-eq0.ensures.end c.in-Ok-eq0.field-0-test))
    (omega (arith, v.count, c.loop-left-test.true)) reads

pub loop-left-preserved : goal.loop-left-preserved
loop-left-preserved g c =
    let v = c.loop-left.invariant in
    let n = c.in-Ok-answer_next.count in
    let piece = take n c.answer_next.new.piece in
    let room = length-take c.min-room.result c.deref_mut.result.now in
    let some : n ≤ c.loop-left.left = omega (arith, c.in-Ok-answer_next.ensures.count, c.answer_next.auto.piece, room, c.min-room.ensures) in
    let long : length piece ≡ n = omega (arith, length-take n c.answer_next.new.piece, c.in-Ok-answer_next.ensures.count) in
    record {
      bytes = v.bytes ++ piece;
      gave = gave_more (g.S.Source.state c.args.input.now) (g.S.Source.state c.loop-left.input) (g.S.Source.state c.answer_next.new.input) v.bytes piece v.gave c.in-Ok-answer_next.ensures.gave;
      count = omega (arith, v.count, long, some, length-append v.bytes piece);
      room = v.room;
      number = omega (arith, v.number, c.in-Ok-answer_next.ensures.number, long, length-append v.bytes piece);
      held = c.in-Ok-answer_next.ensures.held;
      stands = c.in-Ok-answer_next.ensures.answers.world;
      reads = λ W stood. c.in-Ok-answer_next.ensures.answers.reads W c.args.machine.now (g.K.Sink.state c.args.output.now) v.bytes (v.reads W stood);
    }

pub returns : goal.returns
returns g c W stood =
    let v = c.loop-left.invariant in
    cut_runs W v.bytes c.loop-left.progress.number c.loop-left.progress.held.items (v.reads W stood) (g.S.Source.state c.args.input.now) (g.S.Source.state c.loop-left.input) v.gave
    (omega (arith, v.count, c.loop-left-test.false)) v.held
