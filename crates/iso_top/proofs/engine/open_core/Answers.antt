use Rattle.iso_top.proofs.Beginnings.{opened_core}

pub returns-in-Ok-clause-begun : Rattle.iso_top.proofs.engine.open_core.Goals.returns-in-Ok-clause-begun
returns-in-Ok-clause-begun g c =
    let f = c.in-Ok.ensures in
    let b = c.in_default.ensures in
    opened_core g.I.Disk.state g.met.I.Disk.lawful c.args.name.now c.args.image c.bind.new.self b.bound c.bind.ensures.counted b.told b.cause.passed b.settled b.existing
    c.in-Ok.core f.opened f.unwritten f.no_fault
