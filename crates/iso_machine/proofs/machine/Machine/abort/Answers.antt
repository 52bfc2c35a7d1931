use Rattle.iso_machine.proofs.{Words.{◌≡◌, sym, refl, ap, subst, ℕ, List, Option, Some, None, after_leaving, in_transaction, step, World, Live, attached, disk_of, up, Attached, AreOf, live_of, IsHere}, Machines.left, Quiet.stays_with}
use Rattle.script_model.specs.declared.script.Op.TheVariants as op
use Rattle.script_model.specs.declared.script.Reply.TheVariants as reply

abort_step : (W : World) (c : ℕ) (o : Option Live) → attached W c ≡ o → step W c op.Abort ≡ in_transaction W o (λ t. (reply.Done, after_leaving W t))
unfolding step
abort_step W c o is = ap (λ (p : Option Live). in_transaction W p (λ t. (reply.Done, after_leaving W t))) is

pub returns-in_default : Rattle.iso_machine.proofs.machine.Machine.abort.Goals.returns-in_default
returns-in_default g c W of = stays_with (g.met.D.Disk.lawful (disk_of c.args.self.now.core)) of refl (abort_step W c.args.client None (c.in_default.ensures.here W of)) of

pub abort-requires : Rattle.iso_machine.proofs.machine.Machine.abort.Goals.abort-requires
abort-requires g c =
    let (W, of) = c.requires in
    let gone = c.remove-gone.result in
    (W, up, live_of gone, of.core_of, (subst (IsHere W c.args.client) (sym c.remove-gone.ensures.value) (c.in-Some.ensures.here W of gone)).tx)

pub returns : Rattle.iso_machine.proofs.machine.Machine.abort.Goals.returns
returns g c W of =
    let gone = c.remove-gone.result in
    let same = c.remove-gone.ensures.value in
    let h = subst (IsHere W c.args.client) (sym same) (c.in-Some.ensures.here W of gone) in
    stays_with (g.met.D.Disk.lawful (disk_of c.args.self.now.core)) of c.abort.ensures.disk (abort_step W c.args.client (Some (live_of gone)) h.here)
    (subst (λ (l : List Attached). AreOf g.D.Disk.state c.abort.new.self c.set_client.new.self l (after_leaving W (live_of gone))) (sym c.remove-gone.ensures.items)
    (left of c.in-Some.i gone c.in-Some.ensures.within same c.args.client c.set_client.new.self (after_leaving W (live_of gone)) h.here c.set_client.ensures.others c.set_client.ensures.labels refl refl (c.abort.ensures.left W up (live_of gone) of.core_of h.tx)))
