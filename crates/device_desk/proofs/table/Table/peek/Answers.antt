use Rattle.iso_machine.proofs.{Words.{ap, disk_of, in_transaction, IsActive, Live, live_at, Option, refl, shows, sym, true}, Accesses.prepared, Quiet.{acted, answers_as}}
use Rattle.device_desk.specs.{Peeked.peek_reply, Seats.live_of}
use Rattle.device_desk.proofs.{Peeks.{on_any, settled_work}, Tables.{at_place, stays_with, wants_memory, worked_on}}
use Rattle.device_desk.proofs.table.Table.peek.Goals as goal

pub returns-in_default-clause-answer : goal.returns-in_default-clause-answer
returns-in_default-clause-answer g c W of =
    stays_with of (g.met.D.Disk.lawful (disk_of c.args.self.now.core)) refl
    (ap (λ (o : Option Live). in_transaction W o (λ t. (peek_reply W t c.args.block c.args.off c.args.len, W))) (c.in_default.ensures.here W of)) of

pub returns-in-Err-clause-answer : goal.returns-in-Err-clause-answer
returns-in-Err-clause-answer g c W of =
    let d = c.index_mut-seat.result.now in
    let same = c.index_mut-seat.ensures.value in
    let (h, active) = at_place W c.args.number c.args.self.now.live.items c.in-Some.i (c.in-Some.ensures.here W of) same c.deref_mut.ensures.value in
    wants_memory of (g.met.D.Disk.lawful (disk_of c.args.self.now.core)) refl (λ may.
    worked_on of c.in-Some.i d c.in-Some.ensures.within same c.settle.new.self W
    (prepared W (live_of d) c.deref_mut.result.now active c.settle.new.self c.settle.new.self.settled c.in-Err.ensures.err) of.core_of of.core_of.kept_of.world)

pub peek_at-requires-clause-stands : goal.peek_at-requires-clause-stands
peek_at-requires-clause-stands g c =
    let (W, of) = c.requires in
    let d = c.index_mut-seat.result.now in
    let (h, active) = at_place W c.args.number c.args.self.now.live.items c.in-Some.i (c.in-Some.ensures.here W of) c.index_mut-seat.ensures.value c.deref_mut.ensures.value in (
      W,
      live_of d,
      of.core_of,
      h.tx,
      settled_work W (live_of d) c.deref_mut.result.now c.settle.new.self true active.is_work c.in_default-settle.ensures.ok,
      (live_at W c.args.number (live_of d) of.core_of.kept_of.world h.here).accesses,
    )

pub returns-clause-answer : goal.returns-clause-answer
returns-clause-answer g c W of =
    let m = c.args.self.now in
    let d = c.index_mut-seat.result.now in
    let same = c.index_mut-seat.ensures.value in
    let (h, active) = at_place W c.args.number m.live.items c.in-Some.i (c.in-Some.ensures.here W of) same c.deref_mut.ensures.value in
    let work = c.settle.new.self in
    let ok = c.in_default-settle.ensures.ok in
    let still : IsActive W (live_of d) work = record { is_work = settled_work W (live_of d) c.deref_mut.result.now work true active.is_work ok; here = active.here } in
    let after =
    worked_on of c.in-Some.i d c.in-Some.ensures.within same work W (prepared W (live_of d) c.deref_mut.result.now active work true ok) (c.peek_at.ensures.same W of.core_of) of.core_of.kept_of.world in
    answers_as (sym (ap (λ (p : Option Live). in_transaction W p (λ t. (peek_reply W t c.args.block c.args.off c.args.len, W))) h.here))
    (acted (g.met.D.Disk.lawful (disk_of m.core)) (shows g.D.Disk.state m.core W of.core_of) c.peek_at.result (c.peek_at.ensures.given W (live_of d) of.core_of h.tx still) (λ to. after)
    (on_any c.peek_at.result after) c.peek_at.ensures.unwritten c.peek_at.ensures.up c.peek_at.ensures.cause)
