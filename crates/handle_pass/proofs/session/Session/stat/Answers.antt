use Rattle.handle_pass.proofs.Entering.{made_port}

pub returns-clause-did : Rattle.handle_pass.proofs.session.Session.stat.Goals.returns-clause-did
returns-clause-did g c = rw (← c.self.view_is) (made_port g.O.Origin.start c.self.inside c.stat.new.port _ c.self.invariant c.stat.ensures.made c.stat.ensures.units)
