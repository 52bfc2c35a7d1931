use Rattle.iso_machine.proofs.Words.{up}
use Rattle.device_desk.proofs.Devices.{sees}

pub returns : Rattle.device_desk.proofs.desk.Desk.geometry.Goals.returns
returns g c W stands = c.geometry.ensures W up (sees c.self.view_is stands).table.core_of
