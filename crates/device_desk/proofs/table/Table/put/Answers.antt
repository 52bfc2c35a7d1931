use Rattle.iso_machine.proofs.{Words.{◌≡◌, ◌∙◌, sym, refl, ap, inl, Option, Op, Reply, World, Live, in_transaction, disk_of, act_step, step}, Accesses.readied, Asked.access_is, Machines.act_leads}
use Rattle.script_model.specs.declared.script.Op.TheVariants as op
use Rattle.device_desk.specs.Seats.{live_of}
use Rattle.device_desk.proofs.Tables.{at_place, stays_with, wants_memory, worked_on}
use Rattle.device_desk.proofs.table.Table.put.Goals as goal

pub returns-in_default : goal.returns-in_default
returns-in_default g c W of =
    let o : Op = op.Put c.args.block c.args.off c.args.bytes.now in
    stays_with of (g.met.D.Disk.lawful (disk_of c.args.self.now.core)) refl
    (sym (access_is W c.args.number o (inl (c.args.block, c.args.off, c.args.bytes.now, refl))) ∙ ap (λ (t : Option Live). in_transaction W t (λ t. act_step W t o)) (c.in_default.ensures.here W of)) of

pub returns-in-Ok : goal.returns-in-Ok
returns-in-Ok g c W of =
    let o : Op = op.Put c.args.block c.args.off c.args.bytes.now in
    let d = c.index_mut-seat.result.now in
    let same = c.index_mut-seat.ensures.value in
    let (h, active) = at_place W c.args.number c.args.self.now.live.items c.in-Some.i (c.in-Some.ensures.here W of) same c.deref_mut.ensures.value in
    let is = c.in-Ok.ensures.given W (live_of d) active in
    let V : World = (act_step W (live_of d) o).1 in
    stays_with of (g.met.D.Disk.lawful (disk_of c.args.self.now.core)) refl
    (sym (access_is W c.args.number o (inl (c.args.block, c.args.off, c.args.bytes.now, refl))) ∙ ap (λ (t : Option Live). in_transaction W t (λ t. act_step W t o)) h.here
    ∙ ap (λ (r : Reply). (r, V)) (sym is.reply))
    (worked_on of c.in-Some.i d c.in-Some.ensures.within same c.put.new.work V is.worked of.core_of (act_leads W c.args.number (live_of d) o of.core_of.kept_of.world c.requires.op h.here))

pub returns-in-Err : goal.returns-in-Err
returns-in-Err g c W of =
    let d = c.index_mut-seat.result.now in
    let same = c.index_mut-seat.ensures.value in
    let (h, active) = at_place W c.args.number c.args.self.now.live.items c.in-Some.i (c.in-Some.ensures.here W of) same c.deref_mut.ensures.value in
    wants_memory of (g.met.D.Disk.lawful (disk_of c.args.self.now.core)) refl
    (λ on. worked_on of c.in-Some.i d c.in-Some.ensures.within same c.put.new.work W (readied W (live_of d) c.deref_mut.result.now active c.put.new.work c.in-Err.ensures.kept) of.core_of of.core_of.kept_of.world)
