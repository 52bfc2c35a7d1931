use Rattle.handle_pass.proofs.Entering.{made_port}

pub returns-clause-did : Rattle.handle_pass.proofs.session.Session.trim.Goals.returns-clause-did
returns-clause-did g c =
    let m = c.trim.ensures.made in
    rw (← c.self.view_is) (m.0, m.1, made_port g.O.Origin.start c.self.inside c.trim.new.port _ c.self.invariant m.2 c.trim.ensures.units)
