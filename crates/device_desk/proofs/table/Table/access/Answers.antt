use Rattle.iso_machine.proofs.{Words.{refl, sym, ap, Option, in_transaction, Live, disk_of, act_step, shows}, Machines.act_leads, Accesses.readied, Quiet.{acted, answers_as, kept_for}}
use Rattle.device_desk.specs.Seats.{live_of}
use Rattle.device_desk.proofs.Tables.{at_place, stays_with, worked_on}

pub returns-in_default : Rattle.device_desk.proofs.table.Table.access.Goals.returns-in_default
returns-in_default g c W of isop =
    stays_with of (g.met.D.Disk.lawful (disk_of c.args.self.now.core)) refl (ap (λ (o : Option Live). in_transaction W o (λ t. act_step W t c.args.op.now)) (c.in_default.ensures.here W of)) of

pub act-requires : Rattle.device_desk.proofs.table.Table.access.Goals.act-requires
act-requires g c =
    let (W, of) = c.requires in
    let (h, active) = at_place W c.args.number c.args.self.now.live.items c.in-Some.i (c.in-Some.ensures.here W of) c.index_mut-seat.ensures.value c.deref_mut.ensures.value in
    (W, live_of c.index_mut-seat.result.now, of.core_of, h.tx, active)

pub returns : Rattle.device_desk.proofs.table.Table.access.Goals.returns
returns g c W of isop =
    let d = c.index_mut-seat.result.now in
    let same = c.index_mut-seat.ensures.value in
    let (h, active) = at_place W c.args.number c.args.self.now.live.items c.in-Some.i (c.in-Some.ensures.here W of) same c.deref_mut.ensures.value in
    let work = c.act.new.work in
    let stands = c.act.ensures.same W of.core_of in
    answers_as (sym (ap (λ (p : Option Live). in_transaction W p (λ t. act_step W t c.args.op.now)) h.here))
    (acted (g.met.D.Disk.lawful (disk_of c.args.self.now.core)) (shows g.D.Disk.state c.args.self.now.core W of.core_of) c.act.result (c.act.ensures.given W (live_of d) of.core_of h.tx active)
    (λ to. worked_on of c.in-Some.i d c.in-Some.ensures.within same work (act_step W (live_of d) c.args.op.now).1 to stands (act_leads W c.args.number (live_of d) c.args.op.now of.core_of.kept_of.world isop h.here))
    (kept_for c.act.result (λ is. worked_on of c.in-Some.i d c.in-Some.ensures.within same work W (readied W (live_of d) c.deref_mut.result.now active work is) stands of.core_of.kept_of.world) c.act.ensures.kept)
    c.act.ensures.unwritten c.act.ensures.up c.act.ensures.cause)
