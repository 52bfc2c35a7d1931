use Rattle.iso_shared.proofs.Standings.{came_first}

pub on_device-requires-clause-valid : Rattle.handle_tests.proofs.call_tests.over_core.Goals.on_device-requires-clause-valid
on_device-requires-clause-valid g c = c.beginning_of-beginning.ensures.stands.kept_of.world.valid

pub on_device-requires-clause-came : Rattle.handle_tests.proofs.call_tests.over_core.Goals.on_device-requires-clause-came
on_device-requires-clause-came g c =
    came_first g.D.Disk.state c.args.core c.beginning_of-beginning.result.world (g.met.D.Disk.lawful c.args.core.disk) c.beginning_of-beginning.ensures.stands
