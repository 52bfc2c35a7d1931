use Rattle.iso_top.proofs.{Words.{World, IsMachineOf}, Runs.up_behind}

pub finish-requires : Rattle.iso_top.proofs.script.disk_behind.Goals.finish-requires
finish-requires g c = up_behind ((W : World) × IsMachineOf g.D.Disk.state c.args.machine W) c.args.end.now c.requires c.in-Done.is
