use Rattle.iso_core.proofs.{Words.{◌≡◌, ◌∙◌, sym, arith, subst, IsAsked, Mode, clash}, Decides.{asked, later_count, settled_of}}

pub returns-clause-clash : Rattle.iso_core.proofs.decide.decide_end.Goals.returns-clause-clash
returns-clause-clash g c l is_work is =
    let settled = settled_of l.world l.t c.args.work.now c.settle.new.self is_work c.in_ok-settle.ensures.ok c.settle.ensures.within (omega (arith, c.room.ensures)) in
    let mode_is : c.mode.result ≡ l.t.mode = c.mode.ensures ∙ settled.is_work.mode in
    c.decide.ensures.exact l.world.geometry l.world.history l.t.begin l.t.accesses
    (subst (λ (m : Mode). IsAsked l.world.geometry l.world.history m l.t.begin l.t.accesses c.args.checked.now.upto c.args.checked.now.clash c.reads.result.now c.writes.result.now c.args.kept.now.notes.notes) (sym mode_is)
    (asked c.args.kept.now l.world c.args.tx l.t c.args.checked.now l.of l.here is settled.accesses c.settle.new.self settled.is_work c.reads.result.now c.writes.result.now c.reads.ensures c.writes.ensures))
    ∙ (λ i. clash l.world.geometry l.world.history (mode_is i) l.t.begin l.t.accesses)

pub returns-clause-settled : Rattle.iso_core.proofs.decide.decide_end.Goals.returns-clause-settled
returns-clause-settled g c W t is_work =
    settled_of W t c.args.work.now c.settle.new.self is_work c.in_ok-settle.ensures.ok c.settle.ensures.within (omega (arith, c.room.ensures))

pub returns-clause-steps : Rattle.iso_core.proofs.decide.decide_end.Goals.returns-clause-steps
returns-clause-steps g c l is = omega (arith, c.decide.ensures.steps, later_count c.args.kept.now l.world c.args.tx l.t c.args.checked.now l.of l.here is)
