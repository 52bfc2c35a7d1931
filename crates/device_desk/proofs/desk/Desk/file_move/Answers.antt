use Rattle.iso_machine.proofs.Words.{List, subst, ℕ}
use Rattle.script_model.specs.declared.script.Op.TheVariants as op
use Rattle.device_desk.specs.Device.{Answered}

pub returns-in_default-clause-did : Rattle.device_desk.proofs.desk.Desk.file_move.Goals.returns-in_default-clause-did
returns-in_default-clause-did g c W stands = c.unmade.ensures.did W c.args.number (op.FileMove c.args.from.now c.args.to.now) stands

pub returns-in_default-copied-clause-did : Rattle.device_desk.proofs.desk.Desk.file_move.Goals.returns-in_default-copied-clause-did
returns-in_default-copied-clause-did g c W stands = c.unmade-in_default-copied.ensures.did W c.args.number (op.FileMove c.args.from.now c.args.to.now) stands

pub returns-clause-did : Rattle.device_desk.proofs.desk.Desk.file_move.Goals.returns-clause-did
returns-clause-did g c W stands =
    subst (λ (b : List ℕ). Answered g.D.Disk.state c.args.self.now c.perform.new.self W c.args.number (op.FileMove c.args.from.now b) c.perform.result) c.in-Ok-copied.ensures.same
    (subst (λ (b : List ℕ). Answered g.D.Disk.state c.args.self.now c.perform.new.self W c.args.number (op.FileMove b c.in-Ok-copied.to) c.perform.result) c.in-Ok.ensures.same
    (c.perform.ensures.did W stands))
