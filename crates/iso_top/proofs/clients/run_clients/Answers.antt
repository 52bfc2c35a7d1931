use Rattle.iso_top.proofs.{Words.{◌∙◌, inl, inr, refl, subst, ℕ, List, None, Printed}, ClientsMet.{may_begin, none_begun, ran_lines, ran_none}}

pub run_lines-requires-after_bounds : Rattle.iso_top.proofs.clients.run_clients.Goals.run_lines-requires-after_bounds
run_lines-requires-after_bounds g c κs within =
    may_begin g.I.Disk.state (g.met.I.Disk g.world.𝓛 g.world.𝓜 g.world.𝓡 ((λ s x. x), (λ x. x), (λ x. x), λ x. x)).lawful c.args.name.now c.args.image c.in-Ok.core c.in-Ok.ensures.begun (record { core = c.in-Ok.core; given = c.of-given.result }) refl c.of-given.ensures

pub returns-in-Err : Rattle.iso_top.proofs.clients.run_clients.Goals.returns-in-Err
returns-in-Err g c =
    inl (
      c.in-Err.error,
      c.refused.ensures.status,
      none_begun g.I.Disk.state None c.args.name.now c.in-Err.error c.args.image c.in-Err.image c.refused.result.image (g.S.Source.state c.args.input.now) (g.K.Sink.state c.args.output.now)
          (g.K.Sink.state c.refused.new.output) c.in-Err.ensures.unbegun c.refused.ensures.image c.refused.ensures.printed,
    )

pub returns-in-Ok-read_script : Rattle.iso_top.proofs.clients.run_clients.Goals.returns-in-Ok-read_script
returns-in-Ok-read_script g c =
    inr (ran_lines g.I.Disk.state (g.met.I.Disk g.world.𝓛 g.world.𝓜 g.world.𝓡 ((λ s x. x), (λ x. x), (λ x. x), λ x. x)).lawful c.args.name.now c.args.image c.in-Ok.core c.in-Ok.ensures.begun (record { core = c.in-Ok.core; given = c.of-given.result }) refl c.of-given.ensures
    c.in-Ok-read_script.lines.items c.run_lines.result.status c.run_lines.result.image (g.S.Source.state c.args.input.now) (g.S.Source.state c.read_script.new.input) (g.K.Sink.state c.args.output.now)
    (g.K.Sink.state c.run_lines.new.output) c.in-Ok-read_script.ensures.lines c.run_lines.ensures)

pub returns-in-Err-read_script : Rattle.iso_top.proofs.clients.run_clients.Goals.returns-in-Err-read_script
returns-in-Err-read_script g c =
    let old = g.K.Sink.state c.args.output.now in
    let new = g.K.Sink.state c.put_last.new.output in
    let printed = subst (λ (line : List ℕ). Printed old new line) (c.as_slice.ensures.value ∙ c.script_error_line.ensures) c.put_last.ensures in
    inr (inl (
      c.in-Err-read_script.error,
      c.script_error_status-status.ensures,
      ran_none g.I.Disk.state (g.met.I.Disk g.world.𝓛 g.world.𝓜 g.world.𝓡 ((λ s x. x), (λ x. x), (λ x. x), λ x. x)).lawful c.args.name.now c.args.image c.in-Ok.core c.in-Ok.ensures.begun c.in-Err-read_script.error (g.S.Source.state c.args.input.now)
          (g.S.Source.state c.read_script.new.input) old new c.into_disk-image.result c.into_disk-image.ensures c.in-Err-read_script.ensures.why printed,
    ))
