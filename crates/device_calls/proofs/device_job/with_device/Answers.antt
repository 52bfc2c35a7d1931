use Rattle.iso_shared.proofs.Standings.{came_first}

pub served-requires-clause-valid : Rattle.device_calls.proofs.device_job.with_device.Goals.served-requires-clause-valid
served-requires-clause-valid g c = c.beginning_of-beginning.ensures.stands.kept_of.world.valid

pub served-requires-clause-came : Rattle.device_calls.proofs.device_job.with_device.Goals.served-requires-clause-came
served-requires-clause-came g c =
    came_first g.D.Disk.state c.args.core c.beginning_of-beginning.result.world (g.met.D.Disk.lawful c.args.core.disk) c.beginning_of-beginning.ensures.stands
