use Rattle.iso_machine.proofs.Words.{◌≡◌, ◌∙◌, sym, refl, ap, ℕ, after_trim, step, World, floor, disk_of}
use Rattle.script_model.specs.declared.script.Op.TheVariants as op
use Rattle.script_model.specs.declared.script.Reply.TheVariants as reply
use Rattle.device_desk.proofs.Tables.{stays_with}

trim_step : (W : World) (c : ℕ) → step W c op.Trim ≡ (reply.Trimmed (floor W), after_trim W)
unfolding step
trim_step W c = refl

pub returns : Rattle.device_desk.proofs.table.Table.trim.Goals.returns
returns g c W of =
    let is = c.trim.ensures.trimmed W of.core_of in
    let at : c.in-Ok.at ≡ floor W = cc (c.in-Ok.ensures.trimmed W of.core_of).0 in
    stays_with of (g.met.D.Disk.lawful (disk_of c.args.self.now.core)) c.trim.ensures.disk (trim_step W 0 ∙ ap (λ (n : ℕ). (reply.Trimmed n, after_trim W)) (sym at))
    (record { core_of = is.1; live_are = of.live_are; sized = of.sized })
