use Rattle.iso_image.proofs.Switches.{switching, switched}

pub returns-clause-moments : Rattle.iso_image.proofs.laws.an_open_gate_switches_halves.Goals.returns-clause-moments
returns-clause-moments _ = switching

pub returns-clause-opened : Rattle.iso_image.proofs.laws.an_open_gate_switches_halves.Goals.returns-clause-opened
returns-clause-opened _ = switched
