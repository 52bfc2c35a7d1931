use Rattle.iso_top.proofs.{Words.{◌∙◌, inr, sym, subst, ap, Option, Some, None, Task, made_geometry, disk_of, lasts, Geometry, HasCore, HasMet}, Answered.answered, Tasks.{benched, recovered}}

pub returns-in-New : Rattle.iso_top.proofs.top.meet.Goals.returns-in-New
returns-in-New g c =
    let state = g.I.Disk.state in
    let name = c.args.request.now.image.now in
    let new = c.answer_script.result.image in
    let input_old = g.S.Source.state c.args.input.now in
    let input_new = g.S.Source.state c.answer_script.new.input in
    let output_old = g.K.Sink.state c.args.output.now in
    let output_new = g.K.Sink.state c.answer_script.new.output in
    let has = subst (λ (made : Option Geometry). HasCore state made name c.args.image c.in-Ok.core) (c.geometry.ensures.value ∙ ap made_geometry c.in-New.is) c.in-Ok.ensures.begun in
    let (e, replied, status, run, last) = c.answer_script.ensures has.world has.stands has.idle in
    subst (λ (task : Task). HasMet state task name c.answer_script.result.status c.args.image new input_old input_new output_old output_new) (sym c.in-New.is)
    (inr (e, status, answered state (Some c.in-New.geometry) name c.args.image new c.in-Ok.core has input_old input_new output_old replied e run output_new last))

pub returns-in-Run : Rattle.iso_top.proofs.top.meet.Goals.returns-in-Run
returns-in-Run g c =
    let state = g.I.Disk.state in
    let name = c.args.request.now.image.now in
    let new = c.answer_script-in-Run.result.image in
    let input_old = g.S.Source.state c.args.input.now in
    let input_new = g.S.Source.state c.answer_script-in-Run.new.input in
    let output_old = g.K.Sink.state c.args.output.now in
    let output_new = g.K.Sink.state c.answer_script-in-Run.new.output in
    let has = subst (λ (made : Option Geometry). HasCore state made name c.args.image c.in-Ok.core) (c.geometry.ensures.value ∙ ap made_geometry c.in-Run.is) c.in-Ok.ensures.begun in
    let (e, replied, status, run, last) = c.answer_script-in-Run.ensures has.world has.stands has.idle in
    subst (λ (task : Task). HasMet state task name c.answer_script-in-Run.result.status c.args.image new input_old input_new output_old output_new) (sym c.in-Run.is)
    (inr (e, status, answered state None name c.args.image new c.in-Ok.core has input_old input_new output_old replied e run output_new last))

pub returns-in-Recover : Rattle.iso_top.proofs.top.meet.Goals.returns-in-Recover
returns-in-Recover g c =
    let state = g.I.Disk.state in
    let name = c.args.request.now.image.now in
    let source = g.S.Source.state c.args.input.now in
    let old = g.K.Sink.state c.args.output.now in
    let new = g.K.Sink.state c.tell_last.new.output in
    let has = subst (λ (made : Option Geometry). HasCore state made name c.args.image c.in-Ok.core) (c.geometry.ensures.value ∙ ap made_geometry c.in-Recover.is) c.in-Ok.ensures.begun in
    subst (λ (task : Task). HasMet state task name c.tell_last.result.status c.args.image c.tell_last.result.image source source old new) (sym c.in-Recover.is)
    (inr (recovered state name c.tell_last.result.status c.args.image c.tell_last.result.image c.in-Ok.core source old new has c.tell_last.ensures.printed (lasts (g.met.I.Disk.lawful (disk_of c.in-Ok.core)) has.untouched c.tell_last.ensures.unwritten) c.tell_last.ensures.failed
    c.tell_last.ensures.passed))

pub returns-in-Bench : Rattle.iso_top.proofs.top.meet.Goals.returns-in-Bench
returns-in-Bench g c =
    let state = g.I.Disk.state in
    let name = c.args.request.now.image.now in
    let source = g.S.Source.state c.args.input.now in
    let old = g.K.Sink.state c.args.output.now in
    let new = g.K.Sink.state c.answer_drawn.new.output in
    let has = subst (λ (made : Option Geometry). HasCore state made name c.args.image c.in-Ok.core) (c.geometry.ensures.value ∙ ap made_geometry c.in-Bench.is) c.in-Ok.ensures.begun in
    let (e, drawn, rest, empty, held, script_is, nothing_held, run, counted, printed) = c.answer_drawn.ensures.ran in
    subst (λ (task : Task). HasMet state task name c.answer_drawn.result.status c.args.image c.answer_drawn.result.image source source old new) (sym c.in-Bench.is)
    (inr (benched state name c.in-Bench.seed c.in-Bench.count c.answer_drawn.result.status c.args.image c.answer_drawn.result.image c.in-Ok.core source old new has e drawn rest empty held script_is nothing_held c.answer_drawn.ensures.plain run counted printed))
