use Rattle.iso_machine.proofs.{Words.{refl, sym, ap, Option, in_transaction, Live, disk_of, act_step, live_of, shows}, Machines.{act_leads, at_place, worked_on}, Accesses.readied, Quiet.{acted, answers_as, kept_for, stays_with}}

pub returns-in_default : Rattle.iso_machine.proofs.machine.Machine.access.Goals.returns-in_default
returns-in_default g c isop W of =
    stays_with (g.met.D.Disk.lawful (disk_of c.args.self.now.core)) of refl (ap (λ (o : Option Live). in_transaction W o (λ t. act_step W t c.args.op.now)) (c.in_default.ensures.here W of)) of

pub act_reusing-requires : Rattle.iso_machine.proofs.machine.Machine.access.Goals.act_reusing-requires
act_reusing-requires g c =
    let (W, of) = c.requires in
    let (h, active) = at_place W c.args.client c.args.self.now.live.items c.in-Some.i (c.in-Some.ensures.here W of) c.index_mut-attached.ensures.value c.deref_mut.ensures.value in
    (W, live_of c.index_mut-attached.result.now, of.core_of, h.tx, active)

pub returns : Rattle.iso_machine.proofs.machine.Machine.access.Goals.returns
returns g c isop W of =
    let d = c.index_mut-attached.result.now in
    let same = c.index_mut-attached.ensures.value in
    let (h, active) = at_place W c.args.client c.args.self.now.live.items c.in-Some.i (c.in-Some.ensures.here W of) same c.deref_mut.ensures.value in
    let work = c.act_reusing.new.work in
    let stands = c.act_reusing.ensures.same W of.core_of in
    answers_as (sym (ap (λ (p : Option Live). in_transaction W p (λ t. act_step W t c.args.op.now)) h.here))
    (acted (g.met.D.Disk.lawful (disk_of c.args.self.now.core)) (shows g.D.Disk.state c.args.self.now.core W of.core_of) c.act_reusing.result (c.act_reusing.ensures.given W (live_of d) of.core_of h.tx active)
    (λ to. worked_on of c.in-Some.i d c.in-Some.ensures.within same work (act_step W (live_of d) c.args.op.now).1 to stands (act_leads W c.args.client (live_of d) c.args.op.now of.core_of.kept_of.world isop h.here))
    (kept_for c.act_reusing.result (λ is. worked_on of c.in-Some.i d c.in-Some.ensures.within same work W (readied W (live_of d) c.deref_mut.result.now active work is) stands of.core_of.kept_of.world) c.act_reusing.ensures.kept)
    c.act_reusing.ensures.unwritten c.act_reusing.ensures.up c.act_reusing.ensures.cause)
