use Rattle.script_runner.proofs.{Words.{◌≡◌, ◌<◌, ℕ, List, [], ◌∷◌, Result, Ok, Err, IfOk, OnOk, length, take, ap, inl, inr, refl, sym, subst, ◌∙◌, append_known, append_known-nil, WroteFront, Failed, TookNothing, Line, replies, Disk, Memory, Output, SinkFailed, text_of, IfTold, SameButShown, Halt, IsByStep, Answered, end_of, step}, Replying.{is_reply, made_is, put_front, put_one, put_silent, reply_is}, Steps.{counts_stand, halted_one, halted_step, ran_one}}
use Rattle.script_runner.proofs.line.answer_line.Goals as goal
use Rattle.script_runner.specs.Lines.{stopped}
use Rattle.script_model.specs.declared.stop.Stop.TheVariants as stop

-- what is known of what was answered
ok : {X E : Type 0} {r : Result X E} {x : X} {P : Type 0} → r ≡ Ok x → OnOk r P → P
ok {P = P} is known = subst (λ s. OnOk s P) is known

if_ok : {X E : Type 0} {r : Result X E} {x : X} (P : X → Type 0) → r ≡ Ok x → IfOk r P → P x
if_ok P is known = subst (λ s. IfOk s P) is known

pub returns-in-Err : goal.returns-in-Err
returns-in-Err g c W number stood =
    let law = g.met.M.ScriptMachine in
    let Ends : Halt → Type 0 =
    λ h. IsByStep h × Answered (g.M.ScriptMachine.stands c.step-answered.new.self) (g.M.ScriptMachine.disk c.args.machine.now) (g.M.ScriptMachine.disk c.step-answered.new.self) (g.K.Sink.state c.args.output.now) (g.K.Sink.state c.args.output.now) W (end_of h) [] ((number, c.args.line.now) ∷ []) in
    subst Ends (sym c.stopped.ensures)
    (elim c.in-Err.why as (λ s. c.step-answered.result ≡ Err s → Ends (stopped s)) [
      | stop.Down ↦ λ is. absurd (c.step-answered.ensures.up is)
      | stop.Disk ↦ λ is. (
        tt,
        halted_step {stands = g.M.ScriptMachine.stands c.step-answered.new.self} W (number, c.args.line.now) (law.sound c.args.machine.now W stood) c.requires.line.op (c.step-answered.ensures.moments W stood) Disk (λ memory. absurd (cc memory)) (law.lawful c.step-answered.new.self)
            (λ told. sym (append_known-nil _)) (put_silent Disk _ W _ (number, c.args.line.now) (λ P. tt) (sym (append_known-nil _))) tt (c.step-answered.ensures.cause.failed is) (counts_stand _) refl,
      )
      | stop.Memory ↦ λ is. (
        tt,
        halted_step {stands = g.M.ScriptMachine.stands c.step-answered.new.self} W (number, c.args.line.now) (law.sound c.args.machine.now W stood) c.requires.line.op (c.step-answered.ensures.moments W stood) Memory
            (λ memory. c.step-answered.ensures.unmade W stood is) (law.lawful c.step-answered.new.self)
            (λ told. sym (append_known-nil _)) (put_silent Memory _ W _ (number, c.args.line.now) (λ P. tt) (sym (append_known-nil _))) tt (c.step-answered.ensures.cause.memory is) (counts_stand _) refl,
      )
    ] c.in-Err.is)

pub returns-in-Err-set : goal.returns-in-Err-set
returns-in-Err-set g c W number stood =
    let law = g.met.M.ScriptMachine in (
      tt,
      halted_one W (number, c.args.line.now) (law.sound c.args.machine.now W stood) c.requires.line.op (c.step-answered.ensures.moments W stood) Memory (ok c.in-Ok.is (c.step-answered.ensures.world W stood)) (law.sound c.step-answered.new.self (ok c.in-Ok.is (c.step-answered.ensures.world W stood)).world (ok c.in-Ok.is (c.step-answered.ensures.world W stood)).is)
          (λ d here. law.shown c.step-answered.new.self (ok c.in-Ok.is (c.step-answered.ensures.world W stood)).world d (ok c.in-Ok.is (c.step-answered.ensures.world W stood)).is here) (law.lawful c.step-answered.new.self)
          (λ told. sym (append_known-nil _)) (put_silent Memory _ W _ (number, c.args.line.now) (λ P. tt) (sym (append_known-nil _))) tt (ok c.in-Ok.is c.step-answered.ensures.cause.passed) (counts_stand _) refl,
    )

pub returns-in-Err-put_all : goal.returns-in-Err-put_all
returns-in-Err-put_all g c W number stood =
    let law = g.met.M.ScriptMachine in
    let x : ℕ × Line = (number, c.args.line.now) in
    let text : IfTold (g.M.ScriptMachine.disk c.args.machine.now) (c.text.result.now ≡ replies W (x ∷ [])) =
    λ told. reply_is W number c.args.line.now c.in-Ok.answer c.text.result.now c.set.new.self c.text.ensures c.in_default.ensures.ok
    (if_ok (λ r. IfTold (g.M.ScriptMachine.disk c.args.machine.now) (r ≡ (step W c.args.line.now.client c.args.line.now.op).0)) c.in-Ok.is (c.step-answered.ensures.reply W stood) told) in
    let made : c.text.result.now ≡ text_of (x ∷ []) (c.in-Ok.answer ∷ []) = made_is number c.args.line.now c.in-Ok.answer c.text.result.now c.set.new.self c.text.ensures c.in_default.ensures.ok in
    let so = ok c.in-Ok.is (c.step-answered.ensures.world W stood) in
    let put = c.put_all.ensures in
    let err : WroteFront (g.K.Sink.state c.args.output.now) (g.K.Sink.state c.put_all.new.sink) c.text.result.now = c.in-Err-put_all.ensures.err in
    let failed : SinkFailed (g.K.Sink.state c.args.output.now) (g.K.Sink.state c.put_all.new.sink) =
    elim c.in-Err-put_all.field-0 as (λ e. c.in-Err-put_all.field-0 ≡ e → SinkFailed (g.K.Sink.state c.args.output.now) (g.K.Sink.state c.put_all.new.sink)) [
      | Failed ↦ λ is. let how = c.in-Err-put_all.is ∙ ap (λ s. Err s) is in inl (put.failed how, put.not_refused how)
      | TookNothing ↦ λ is. let how = c.in-Err-put_all.is ∙ ap (λ s. Err s) is in inr (put.took_nothing how, put.not_failed how)
    ] refl in (
      tt,
      halted_one W x (law.sound c.args.machine.now W stood) c.requires.line.op (c.step-answered.ensures.moments W stood) Output so (law.sound c.step-answered.new.self so.world so.is) (λ d here. law.shown c.step-answered.new.self so.world d so.is here) (law.lawful c.step-answered.new.self)
          (λ told. inl (record {
            count = err.count;
            short = subst (λ (t : List ℕ). err.count < length t) (text told) err.short;
            wrote = err.wrote ∙ ap (λ t. append_known (g.K.Sink.state c.args.output.now).written (take err.count t)) (text told);
          }))
          (put_front (g.K.Sink.state c.args.output.now) (g.K.Sink.state c.put_all.new.sink) W so.world x c.in-Ok.answer (is_reply W c.args.line.now c.in-Ok.answer so (law.sound c.step-answered.new.self so.world so.is) (λ plain. if_ok (λ r. SameButShown r (step W c.args.line.now.client c.args.line.now.op).0) c.in-Ok.is (c.step-answered.ensures.but_shown W stood plain))) (inl (record {
            count = err.count;
            short = subst (λ (t : List ℕ). err.count < length t) made err.short;
            wrote = err.wrote ∙ ap (λ t. append_known (g.K.Sink.state c.args.output.now).written (take err.count t)) made;
          })))
          so.is (ok c.in-Ok.is c.step-answered.ensures.cause.passed) failed put.whole,
    )

pub returns : goal.returns
returns g c W number stood =
    let law = g.met.M.ScriptMachine in
    let x : ℕ × Line = (number, c.args.line.now) in
    let text : IfTold (g.M.ScriptMachine.disk c.args.machine.now) (c.text.result.now ≡ replies W (x ∷ [])) =
    λ told. reply_is W number c.args.line.now c.in-Ok.answer c.text.result.now c.set.new.self c.text.ensures c.in_default.ensures.ok
    (if_ok (λ r. IfTold (g.M.ScriptMachine.disk c.args.machine.now) (r ≡ (step W c.args.line.now.client c.args.line.now.op).0)) c.in-Ok.is (c.step-answered.ensures.reply W stood) told) in
    let made : c.text.result.now ≡ text_of (x ∷ []) (c.in-Ok.answer ∷ []) = made_is number c.args.line.now c.in-Ok.answer c.text.result.now c.set.new.self c.text.ensures c.in_default.ensures.ok in
    let so = ok c.in-Ok.is (c.step-answered.ensures.world W stood) in
    ran_one W x (law.sound c.args.machine.now W stood) c.requires.line.op (c.step-answered.ensures.moments W stood) so (law.sound c.step-answered.new.self so.world so.is) (λ d here. law.shown c.step-answered.new.self so.world d so.is here)
    (λ told. c.in_default-put_all.ensures.ok ∙ ap (append_known (g.K.Sink.state c.args.output.now).written) (text told))
    (put_one (g.K.Sink.state c.args.output.now) (g.K.Sink.state c.put_all.new.sink) W x c.in-Ok.answer so.world (is_reply W c.args.line.now c.in-Ok.answer so (law.sound c.step-answered.new.self so.world so.is) (λ plain. if_ok (λ r. SameButShown r (step W c.args.line.now.client c.args.line.now.op).0) c.in-Ok.is (c.step-answered.ensures.but_shown W stood plain)))
    (c.in_default-put_all.ensures.ok ∙ ap (append_known (g.K.Sink.state c.args.output.now).written) made)) (ok c.in-Ok.is c.step-answered.ensures.told) (ok c.in-Ok.is c.step-answered.ensures.cause.passed) c.in_default-put_all.ensures.passed c.put_all.ensures.whole
