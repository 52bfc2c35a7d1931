use Rattle.iso_machine.proofs.Words.{ap, false}
use Rattle.device_desk.specs.Device.{Device}

pub invariant_of-self : Rattle.device_desk.proofs.desk.Desk.go_down.Goals.invariant_of-self
invariant_of-self g c off = absurd (cc off)

pub returns : Rattle.device_desk.proofs.desk.Desk.go_down.Goals.returns
returns g c = ap (λ (d : Device g.row.D.Denot). record { table = d.table; up = false }) c.self.view_is
