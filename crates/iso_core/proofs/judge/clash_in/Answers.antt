use Rattle.iso_core.proofs.{Words.{◌∙◌, sym, None, clash, ahead, subst, IsAsked, Mode}, Judging.{asked_first, asked_second}}

pub returns : Rattle.iso_core.proofs.judge.clash_in.Goals.returns
returns g c m =
    let W = m.world in
    let work = c.args.member.now.work in
    let w = m.ready.settled.is_work in
    let first = c.decide-clash.ensures.exact W.geometry W.history work.begin work.accesses
    (subst (λ (k : Mode). IsAsked W.geometry W.history k work.begin work.accesses c.begun_at.result None c.reads.result.now c.writes.result.now c.args.kept.now.notes.notes) (sym c.mode.ensures)
    (asked_first c.args.kept.now W m.more c.args.plan.now m.of m.is c.args.member.now.tx m.t work m.ready.here m.ready.settled c.begun_at.result c.begun_at.ensures c.reads.result.now c.writes.result.now c.reads.ensures c.writes.ensures))
    ∙ (λ i. clash W.geometry W.history (c.mode.ensures i) work.begin work.accesses) in
    let second = c.decide.ensures.exact W.geometry (ahead W m.more).history work.begin work.accesses
    (subst (λ (k : Mode). IsAsked W.geometry (ahead W m.more).history k work.begin work.accesses c.last.result c.decide-clash.result c.reads-2.result.now c.writes-2.result.now c.args.plan.now.notes.notes) (sym c.mode-2.ensures)
    (asked_second c.args.kept.now W m.more c.args.plan.now m.of m.is c.args.member.now.tx m.t work m.ready.here m.ready.settled c.last.result c.decide-clash.result c.last.ensures first c.reads-2.result.now c.writes-2.result.now c.reads-2.ensures c.writes-2.ensures))
    ∙ (λ i. clash W.geometry (ahead W m.more).history (c.mode-2.ensures i) work.begin work.accesses) in
    second ∙ (λ i. clash W.geometry (ahead W m.more).history (w.mode i) (w.begin i) (w.accesses i))
