use Rattle.handle_pass.proofs.Handing.{joined_in}

pub returns : Rattle.handle_pass.proofs.session.Session.join_port.Goals.returns
returns g c =
    rw (← c.self.view_is) (record { did = joined_in c.self.inside c.join.new.into c.args.port c.join.ensures.units c.join.ensures.seen.0 c.join.ensures.seen.1 c.join.ensures.places })
