use Rattle.iso_machine.proofs.{Words.{◌≤◌, refl, sym, ap, subst, Option, length, Ok, in_transaction, World, Live, IsWorld, accesses_are, live_at, disk_of, Doing, IsWorkedTo, Always, store_act, shows, OnOk, set}, Told.{store_keeps, stored_so, told_as, told_so}}
use Rattle.script_model.specs.declared.script.Reply.TheVariants as reply
use Rattle.device_desk.specs.{Seats.{AreOf, live_of}, Sizes.StandsBeside}
use Rattle.device_desk.proofs.{FileSizes.beside, Tables.{at_place, stays_with, worked_on}}

pub returns-in_default-clause-answer : Rattle.device_desk.proofs.table.Table.stored.Goals.returns-in_default-clause-answer
returns-in_default-clause-answer g c W of =
    told_so {known = Always} (Ok reply.NotInTx) (λ why may. may)
    (stays_with of (g.met.D.Disk.lawful (disk_of c.args.self.now.core)) refl (ap (λ (o : Option Live). in_transaction W o (λ t. store_act W t c.args.op.now)) (c.in_default.ensures.here W of)) of)

pub store-requires : Rattle.device_desk.proofs.table.Table.stored.Goals.store-requires
store-requires g c =
    let (W, of) = c.requires in
    let d = c.index_mut-seat.result.now in
    let (h, active) = at_place W c.args.number c.args.self.now.live.items c.in-Some.i (c.in-Some.ensures.here W of) c.index_mut-seat.ensures.value c.deref_mut.ensures.value in
    (W, live_of d, of.core_of, h.tx, active, subst (λ (w : Doing). length w.accesses ≤ 4096) (sym c.deref_mut.ensures.value) (live_at W c.args.number (live_of d) of.core_of.kept_of.world h.here).count)

pub returns-in_default-clause-beside : Rattle.device_desk.proofs.table.Table.stored.Goals.returns-in_default-clause-beside
returns-in_default-clause-beside g c W of =
    let none = c.in_default.ensures.here W of in
    record {
      world = W;
      is = of;
      known = λ told. sym (ap (λ (o : Option Live). (in_transaction W o (λ t. store_act W t c.args.op.now)).1) none);
      same = record { live = refl; rest = refl };
    }

pub returns-clause-answer : Rattle.device_desk.proofs.table.Table.stored.Goals.returns-clause-answer
returns-clause-answer g c W of =
    let m = c.args.self.now in
    let state = g.D.Disk.state in
    let d = c.index_mut-seat.result.now in
    let same = c.index_mut-seat.ensures.value in
    let (h, active) = at_place W c.args.number c.args.self.now.live.items c.in-Some.i (c.in-Some.ensures.here W of) same c.deref_mut.ensures.value in
    let o = c.args.op.now in
    let new = c.store.new.work in
    let live = live_at W c.args.number (live_of d) of.core_of.kept_of.world h.here in
    let keeps = store_keeps W (live_of d) o in
    let sound : (V : World) → IsWorkedTo W (live_of d) V new → IsWorld V =
    λ V to. subst (λ (U : World). IsWorld U) (sym to.world)
    (accesses_are W c.args.number (live_of d) new.accesses of.core_of.kept_of.world h.here live c.store.ensures.few
    (c.store.ensures.within W.geometry (sym to.is_work.size) (sym to.is_work.blocks))).world in
    told_as (sym (ap (λ (p : Option Live). in_transaction W p (λ t. store_act W t o)) h.here))
    (stored_so keeps.0 keeps.1 (shows state m.core W of.core_of) c.store.ensures.unwritten active c.store.ensures.work c.store.result (c.store.ensures.given W (live_of d) of.core_of h.tx active)
    (λ V to. worked_on of c.in-Some.i d c.in-Some.ensures.within same new V to (c.store.ensures.same W of.core_of) (sound V to))
    c.store.ensures.up c.store.ensures.cause)

pub returns-clause-beside : Rattle.device_desk.proofs.table.Table.stored.Goals.returns-clause-beside
returns-clause-beside g c W of =
    let d = c.index_mut-seat.result.now in
    let same = c.index_mut-seat.ensures.value in
    let (h, active) = at_place W c.args.number c.args.self.now.live.items c.in-Some.i (c.in-Some.ensures.here W of) same c.deref_mut.ensures.value in
    let o = c.args.op.now in
    let new = c.store.new.work in
    let live = live_at W c.args.number (live_of d) of.core_of.kept_of.world h.here in
    let sound : (V : World) → IsWorkedTo W (live_of d) V new → IsWorld V =
    λ V to. subst (λ (U : World). IsWorld U) (sym to.world)
    (accesses_are W c.args.number (live_of d) new.accesses of.core_of.kept_of.world h.here live c.store.ensures.few
    (c.store.ensures.within W.geometry (sym to.is_work.size) (sym to.is_work.blocks))).world in
    let stands : World → Type 0 = AreOf g.D.Disk.state c.store.new.core (set c.args.self.now.live.items c.in-Some.i (record d { work = record d.work { value = new } })) in
    subst (λ (p : Option Live). OnOk c.store.result (StandsBeside stands (g.D.Disk.state (disk_of c.args.self.now.core)) W (in_transaction W p (λ t. store_act W t o)).1)) (sym h.here)
    (beside stands (g.D.Disk.state (disk_of c.args.self.now.core)) (store_act W (live_of d) o) active c.store.result (c.store.ensures.given W (live_of d) of.core_of h.tx active)
    (λ V to. worked_on of c.in-Some.i d c.in-Some.ensures.within same new V to (c.store.ensures.same W of.core_of) (sound V to)))
