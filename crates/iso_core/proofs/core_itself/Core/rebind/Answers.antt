use Rattle.iso_core.proofs.Standings.{stands_bound}

pub returns-clause-same : Rattle.iso_core.proofs.core_itself.Core.rebind.Goals.returns-clause-same
returns-clause-same g c W standing of =
    stands_bound (g.D.Disk.state c.args.self.now.disk) (g.D.Disk.state c.run.new.disk) c.args.self.now.kept W standing (g.met.D.Disk.lawful c.run.new.disk) of c.run.ensures.unwritten
