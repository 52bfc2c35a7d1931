use Rattle.iso_recover.proofs.{Words.{inl, on_ok_weaker, weakened, IsUnmadeOrEmpty}, Making.{AreParts, all_moments, gate_moments, made_whole, unmade}}

pub returns-in_err-stage-clause-moments : Rattle.iso_recover.proofs.format.put_front.Goals.returns-in_err-stage-clause-moments
returns-in_err-stage-clause-moments g c = weakened {Q = IsUnmadeOrEmpty c.args.geometry.now} c.stage.ensures.closed (λ image closed. inl (unmade image closed))

pub returns-clause-moments : Rattle.iso_recover.proofs.format.put_front.Goals.returns-clause-moments
returns-clause-moments g c =
    let law = g.met.D.Disk.lawful in
    let d = g.D.Disk.state in
    let parts : AreParts c.args.geometry.now c.split_at.result.0.now c.write_half.new.into (g.D.Disk.state c.args.disk.now).size =
    record { valid = c.requires.valid; block = c.write_super.new.into; block_is = c.write_super.ensures; front_is = c.split_at.ensures.front; header_is = c.write_half.ensures; size_is = c.requires.size } in
    all_moments c.args.geometry.now c.requires.valid c.stage.ensures.closed
    (gate_moments c.args.geometry.now c.split_at.result.0.now c.write_half.new.into (d c.args.disk.now).size (d c.stage.new.disk) (d c.open_gate.new.disk) parts c.split_at.ensures.front_len
    (law c.stage.new.disk) c.stage.ensures.closed.same_size c.in_ok-stage.ensures.whole c.open_gate.ensures.moments)

pub returns-clause-made : Rattle.iso_recover.proofs.format.put_front.Goals.returns-clause-made
returns-clause-made g c =
    let law = g.met.D.Disk.lawful in
    let d = g.D.Disk.state in
    let parts : AreParts c.args.geometry.now c.split_at.result.0.now c.write_half.new.into (g.D.Disk.state c.args.disk.now).size =
    record { valid = c.requires.valid; block = c.write_super.new.into; block_is = c.write_super.ensures; front_is = c.split_at.ensures.front; header_is = c.write_half.ensures; size_is = c.requires.size } in
    let run =
    gate_moments c.args.geometry.now c.split_at.result.0.now c.write_half.new.into (d c.args.disk.now).size (d c.stage.new.disk) (d c.open_gate.new.disk) parts c.split_at.ensures.front_len
    (law c.stage.new.disk) c.stage.ensures.closed.same_size c.in_ok-stage.ensures.whole c.open_gate.ensures.moments in
    on_ok_weaker c.open_gate.result (made_whole c.args.geometry.now c.requires.valid (law c.open_gate.new.disk) run) c.open_gate.ensures.open
