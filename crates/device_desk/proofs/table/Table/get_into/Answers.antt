use Rattle.iso_machine.proofs.{Words.{◌≡◌, ◌∙◌, sym, refl, ap, inl, inr, length, Option, Op, Live, in_transaction, disk_of, act_step, step, shows}, Accesses.readied, Asked.access_is, Machines.act_leads, Quiet.{acted, answers_as, kept_for}}
use Rattle.iso_machine.specs.Accessing.{with_bytes}
use Rattle.script_model.specs.declared.script.Op.TheVariants as op
use Rattle.device_desk.specs.Seats.{live_of}
use Rattle.device_desk.proofs.Tables.{at_place, stays_with, worked_on}
use Rattle.device_desk.proofs.table.Table.get_into.Goals as goal

pub returns-in_default-clause-answer : goal.returns-in_default-clause-answer
returns-in_default-clause-answer g c W of =
    let n = length c.args.into.now in
    let o : Op = op.Get c.args.block c.args.off n in
    stays_with of (g.met.D.Disk.lawful (disk_of c.args.self.now.core)) refl
    (sym (access_is W c.args.number o (inr (inr (inl (c.args.block, c.args.off, n, refl))))) ∙ ap (λ (t : Option Live). in_transaction W t (λ t. act_step W t o)) (c.in_default.ensures.here W of)) of

pub get_into-requires : goal.get_into-requires
get_into-requires g c =
    let (W, of) = c.requires in
    let (h, active) = at_place W c.args.number c.args.self.now.live.items c.in-Some.i (c.in-Some.ensures.here W of) c.index_mut-seat.ensures.value c.deref_mut.ensures.value in
    (W, live_of c.index_mut-seat.result.now, of.core_of, h.tx, active)

pub returns-clause-answer : goal.returns-clause-answer
returns-clause-answer g c W of =
    let n = length c.args.into.now in
    let o : Op = op.Get c.args.block c.args.off n in
    let d = c.index_mut-seat.result.now in
    let same = c.index_mut-seat.ensures.value in
    let (h, active) = at_place W c.args.number c.args.self.now.live.items c.in-Some.i (c.in-Some.ensures.here W of) same c.deref_mut.ensures.value in
    let work = c.get_into.new.work in
    let answer = with_bytes c.get_into.result c.get_into.new.into in
    let stands = c.get_into.ensures.same W of.core_of in
    answers_as (sym (ap (λ (t : Option Live). in_transaction W t (λ t. act_step W t o)) h.here) ∙ access_is W c.args.number o (inr (inr (inl (c.args.block, c.args.off, n, refl)))))
    (acted (g.met.D.Disk.lawful (disk_of c.args.self.now.core)) (shows g.D.Disk.state c.args.self.now.core W of.core_of) answer (c.get_into.ensures.given W (live_of d) of.core_of h.tx active)
    (λ to. worked_on of c.in-Some.i d c.in-Some.ensures.within same work (act_step W (live_of d) o).1 to stands (act_leads W c.args.number (live_of d) o of.core_of.kept_of.world tt h.here))
    (kept_for answer (λ is. worked_on of c.in-Some.i d c.in-Some.ensures.within same work W (readied W (live_of d) c.deref_mut.result.now active work is) stands of.core_of.kept_of.world) c.get_into.ensures.kept)
    c.get_into.ensures.unwritten c.get_into.ensures.up c.get_into.ensures.cause)
