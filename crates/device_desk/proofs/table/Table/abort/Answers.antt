use Rattle.iso_machine.proofs.Words.{◌≡◌, sym, refl, ap, subst, ℕ, List, Option, Some, None, after_leaving, in_transaction, step, World, Live, attached, disk_of, up}
use Rattle.script_model.specs.declared.script.Op.TheVariants as op
use Rattle.script_model.specs.declared.script.Reply.TheVariants as reply
use Rattle.device_desk.specs.{declared.seat.Seat.Seat, Seats.{AreOf, IsHere, live_of}}
use Rattle.device_desk.proofs.Tables.{left, stays_with}

abort_step : (W : World) (c : ℕ) (o : Option Live) → attached W c ≡ o → step W c op.Abort ≡ in_transaction W o (λ t. (reply.Done, after_leaving W t))
unfolding step
abort_step W c o is = ap (λ (p : Option Live). in_transaction W p (λ t. (reply.Done, after_leaving W t))) is

pub returns-in_default : Rattle.device_desk.proofs.table.Table.abort.Goals.returns-in_default
returns-in_default g c W of = stays_with of (g.met.D.Disk.lawful (disk_of c.args.self.now.core)) refl (abort_step W c.args.number None (c.in_default.ensures.here W of)) of

pub abort-requires : Rattle.device_desk.proofs.table.Table.abort.Goals.abort-requires
abort-requires g c =
    let (W, of) = c.requires in
    let gone = c.remove-gone.result in
    (W, up, live_of gone, of.core_of, (subst (IsHere W c.args.number) (sym c.remove-gone.ensures.value) (c.in-Some.ensures.here W of gone)).tx)

pub returns : Rattle.device_desk.proofs.table.Table.abort.Goals.returns
returns g c W of =
    let gone = c.remove-gone.result in
    let same = c.remove-gone.ensures.value in
    let h = subst (IsHere W c.args.number) (sym same) (c.in-Some.ensures.here W of gone) in
    stays_with of (g.met.D.Disk.lawful (disk_of c.args.self.now.core)) c.abort.ensures.disk (abort_step W c.args.number (Some (live_of gone)) h.here)
    (subst (λ (l : List Seat). AreOf g.D.Disk.state c.abort.new.self l (after_leaving W (live_of gone))) (sym c.remove-gone.ensures.items)
    (left of c.in-Some.i gone c.in-Some.ensures.within same (after_leaving W (live_of gone)) refl refl (c.abort.ensures.left W up (live_of gone) of.core_of h.tx)))
