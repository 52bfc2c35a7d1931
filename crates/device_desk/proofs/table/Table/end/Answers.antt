use Rattle.iso_machine.proofs.{Words.{◌∙◌, sym, refl, ap, subst, ◌≡◌, List, Some, None, IsSome, remove, as_reply, end_step, disk_of, shows}, Accesses.prepared, Endings.{end_is, end_keeps, has_gone, unwritten, unwritten_for_memory}, Lists.remove_set, Quiet.{answered, answers_as, answers_by, shows_still}, Refusals.{blames, refused}}
use Rattle.device_desk.specs.{declared.seat.Seat.Seat, Seats.{AreOf, live_of}}
use Rattle.device_desk.proofs.Tables.{at_place, left, stays_with, worked_on}

pub returns-in_default : Rattle.device_desk.proofs.table.Table.end.Goals.returns-in_default
returns-in_default g c W of = stays_with of (g.met.D.Disk.lawful (disk_of c.args.self.now.core)) refl (end_is W c.args.number None (c.in_default.ensures.here W of)) of

pub end_whole-requires-clause-stands : Rattle.device_desk.proofs.table.Table.end.Goals.end_whole-requires-clause-stands
end_whole-requires-clause-stands g c =
    let (W, of) = c.requires in
    let (h, active) = at_place W c.args.number c.args.self.now.live.items c.in-Some.i (c.in-Some.ensures.here W of) c.index_mut-seat.ensures.value c.deref_mut.ensures.value in
    (W, live_of c.index_mut-seat.result.now, of.core_of, h.tx, active.is_work)

pub returns-in-Err : Rattle.device_desk.proofs.table.Table.end.Goals.returns-in-Err
returns-in-Err g c W of =
    let m = c.args.self.now in
    let d = c.index_mut-seat.result.now in
    let e = c.in-Err.error in
    let new = c.end_whole.new.core in
    let work = c.end_whole.new.work in
    let same = c.index_mut-seat.ensures.value in
    let (h, active) = at_place W c.args.number c.args.self.now.live.items c.in-Some.i (c.in-Some.ensures.here W of) same c.deref_mut.ensures.value in
    answers_by c.refused.ensures (answers_as (sym (end_is W c.args.number (Some (live_of d)) h.here))
    (refused (λ may. absurd (cc may)) e (record {
      is = c.in-Err.ensures.refused W (live_of d) of.core_of h.tx active.is_work;
      keeps = end_keeps W (live_of d);
      same = λ other. worked_on of c.in-Some.i d c.in-Some.ensures.within same work W (prepared W (live_of d) c.deref_mut.result.now active work work.settled c.in-Err.ensures.work)
          (c.in-Err.ensures.same W of.core_of other) of.core_of.kept_of.world;
      told = λ some told. subst (λ (disk : g.row.D.Denot). IsSome (g.D.Disk.state disk).contents) (sym (unwritten (disk_of m.core) (disk_of new) e some c.in-Err.ensures.unwritten)) told;
      moments = c.in-Err.ensures.moments W (live_of d) of.core_of h.tx active.is_work;
      unmade = λ wants. shows_still g.D.Disk.state W (g.met.D.Disk.lawful (disk_of m.core)) (shows g.D.Disk.state m.core W of.core_of) (unwritten_for_memory e wants c.in-Err.ensures.unwritten);
      cause = blames e c.in-Err.ensures.cause;
    })))

pub returns : Rattle.device_desk.proofs.table.Table.end.Goals.returns
returns g c W of =
    let m = c.args.self.now in
    let d = c.index_mut-seat.result.now in
    let same = c.index_mut-seat.ensures.value in
    let (h, active) = at_place W c.args.number c.args.self.now.live.items c.in-Some.i (c.in-Some.ensures.here W of) same c.deref_mut.ensures.value in
    let is = c.in-Ok.ensures.ended W (live_of d) of.core_of h.tx active.is_work in
    let gone = has_gone W (live_of d) c.in-Ok.reply is.0 in
    let items_are : c.remove-gone.new.self.items ≡ remove m.live.items c.in-Some.i =
    c.remove-gone.ensures.items ∙ remove_set m.live.items c.in-Some.i (record d { work = record d.work { value = c.end_whole.new.work } }) in
    answers_as (sym (end_is W c.args.number (Some (live_of d)) h.here))
    (answered (c.ended.ensures ∙ ap as_reply (sym is.0)) c.in-Ok.ensures.told
    (subst (λ (l : List Seat). AreOf g.D.Disk.state c.end_whole.new.core l (end_step W (live_of d)).1) (sym items_are)
    (left of c.in-Some.i d c.in-Some.ensures.within same (end_step W (live_of d)).1 gone.live gone.geometry is.1))
    (c.in-Ok.ensures.moments W (live_of d) of.core_of h.tx active.is_work) c.in-Ok.ensures.cause)
