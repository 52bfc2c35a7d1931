use Rattle.handle_pass.proofs.{Words.{ap, sym, ◌∙◌, own_in, own_of}, Entering.made_gone}

pub returns : Rattle.handle_pass.proofs.session.Session.abort_tx.Goals.returns
returns g c =
    let was = sym c.take.ensures.value ∙ c.in-Some.is in
    rw (← c.self.view_is) (record {
      did = (
        own_in c.in-Some.tx,
        ap own_of was,
        ap own_of c.take.ensures.after,
        made_gone g.O.Origin.start c.self.inside c.abort.new.port c.take.new.self c.in-Some.tx _ c.self.invariant was c.take.ensures.after c.abort.ensures.made c.abort.ensures.units,
      );
    })
