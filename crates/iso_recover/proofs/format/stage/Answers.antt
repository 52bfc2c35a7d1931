use Rattle.iso_recover.proofs.{Words.{inl, inr, ℕ, length, ◌∙◌, arith, on_ok_weaker, started, goes_on_still}, Laid.{blank_gates, settled_parts, staged_is, writes_beside}}

pub returns-in_err-write-clause-closed : Rattle.iso_recover.proofs.format.stage.Goals.returns-in_err-write-clause-closed
returns-in_err-write-clause-closed g c =
    let law = g.met.D.Disk.lawful in
    let start = started (law c.args.disk.now) (blank_gates (g.D.Disk.state c.args.disk.now) c.requires.size c.requires.blank) in
    writes_beside 0 (length c.args.front.now) (inl (omega (arith, c.requires.front))) (law c.args.disk.now) start c.write.ensures.crash

pub returns-in_err-write-2-clause-closed : Rattle.iso_recover.proofs.format.stage.Goals.returns-in_err-write-2-clause-closed
returns-in_err-write-2-clause-closed g c =
    let law = g.met.D.Disk.lawful in
    let start = started (law c.args.disk.now) (blank_gates (g.D.Disk.state c.args.disk.now) c.requires.size c.requires.blank) in
    let first = writes_beside 0 (length c.args.front.now) (inl (omega (arith, c.requires.front))) (law c.args.disk.now) start c.write.ensures.crash in
    writes_beside 64 (length c.args.header.now) (inr (omega arith)) (law c.write.new.self) first c.write-2.ensures.crash

pub returns-clause-closed : Rattle.iso_recover.proofs.format.stage.Goals.returns-clause-closed
returns-clause-closed g c =
    let law = g.met.D.Disk.lawful in
    let start = started (law c.args.disk.now) (blank_gates (g.D.Disk.state c.args.disk.now) c.requires.size c.requires.blank) in
    let first = writes_beside 0 (length c.args.front.now) (inl (omega (arith, c.requires.front))) (law c.args.disk.now) start c.write.ensures.crash in
    let second = writes_beside 64 (length c.args.header.now) (inr (omega arith)) (law c.write.new.self) first c.write-2.ensures.crash in
    goes_on_still (law c.write-2.new.self) second c.sync.ensures.crash

pub returns-clause-whole : Rattle.iso_recover.proofs.format.stage.Goals.returns-clause-whole
returns-clause-whole g c =
    let d = g.D.Disk.state in
    let size : ℕ = (g.D.Disk.state c.args.disk.now).size in
    on_ok_weaker c.sync.result (λ settled image now.
    settled_parts (d c.args.disk.now) (d c.write.new.self) (d c.write-2.new.self) (d c.sync.new.self) c.args.front.now c.args.header.now size (g.met.D.Disk.lawful c.args.disk.now) c.requires.blank
    c.in_ok-write.ensures.written c.in_ok-write-2.ensures.written c.sync.ensures.contents settled image now
    ∙ staged_is c.args.front.now c.args.header.now size c.requires.front c.requires.header c.requires.size) c.sync.ensures.settled
