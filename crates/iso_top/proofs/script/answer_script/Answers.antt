use Rattle.iso_top.proofs.{Words.{sym, subst, ap, disk_of, IsMachineOf, World, HasRun}, Runs.{run_alone, up_on}}

pub run-end-requires : Rattle.iso_top.proofs.script.answer_script.Goals.run-end-requires
run-end-requires g c = let (W, stands, idle) = c.requires in (W, c.over-machine.ensures.stands W stands idle)

pub disk_behind-image-requires : Rattle.iso_top.proofs.script.answer_script.Goals.disk_behind-image-requires
disk_behind-image-requires g c =
    let (W, stands, idle) = c.requires in
    let ran = c.run-end.ensures.ran W (c.over-machine.ensures.stands W stands idle) in
    let machine = c.run-end.new.machine in
    up_on (IsMachineOf g.I.Disk.state machine ran.answered.final) ((V : World) × IsMachineOf g.I.Disk.state machine V)
    (λ is. (ran.answered.final, is)) c.run-end.result ran.answered.world

pub returns : Rattle.iso_top.proofs.script.answer_script.Goals.returns
returns g c W stands idle =
    let state = g.I.Disk.state in
    let input_old = g.S.Source.state c.args.input.now in
    let input_new = g.S.Source.state c.run-end.new.input in
    let output_old = g.K.Sink.state c.args.output.now in
    let replied = g.K.Sink.state c.run-end.new.output in
    let ran = run_alone _ _ _ input_old input_new output_old replied W c.run-end.result (c.run-end.ensures.ran W (c.over-machine.ensures.stands W stands idle)) in
    let old = ap disk_of c.over-machine.ensures.core in
    let new = c.disk_behind-image.ensures in (
      c.run-end.result,
      replied,
      c.end_status-status.ensures,
      subst (λ (d : g.row.I.Denot). HasRun (λ V. Unit {0}) (state (disk_of c.args.core)) (state d) input_old input_new output_old replied W c.run-end.result) (sym new)
          (subst (λ (d : g.row.I.Denot). HasRun (λ V. Unit {0}) (state d) (state (disk_of c.run-end.new.machine.core)) input_old input_new output_old replied W c.run-end.result) old ran),
      c.put_end.ensures,
    )
