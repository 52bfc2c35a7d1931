use Rattle.iso_machine.proofs.Words.{List, subst, ℕ}
use Rattle.script_model.specs.declared.script.Op.TheVariants as op
use Rattle.device_desk.specs.Device.{Answered}

pub returns-in_default-clause-did : Rattle.device_desk.proofs.desk.Desk.write.Goals.returns-in_default-clause-did
returns-in_default-clause-did g c W stands = c.unmade.ensures.did W c.args.number (op.Write c.args.block c.args.bytes.now) stands

pub returns-clause-did : Rattle.device_desk.proofs.desk.Desk.write.Goals.returns-clause-did
returns-clause-did g c W stands =
    subst (λ (b : List ℕ). Answered g.D.Disk.state c.args.self.now c.perform.new.self W c.args.number (op.Write c.args.block b) c.perform.result) c.in-Ok.ensures.same
    (c.perform.ensures.did W stands)
