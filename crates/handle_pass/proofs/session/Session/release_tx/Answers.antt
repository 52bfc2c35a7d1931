use Rattle.handle_pass.proofs.{Words.{subst, sym, ◌∙◌, ◌≡◌, IfSome, tx_view}, Handing.released}

pub returns : Rattle.handle_pass.proofs.session.Session.release_tx.Goals.returns
returns g c =
    let s = c.self.inside in
    let was = sym c.take.ensures.value ∙ c.in-Some.is in
    let one = subst (λ o. IfSome o (λ t. (tx_view t).units ≡ 1)) was c.self.invariant.one in
    rw (← c.self.view_is) (record {
      did = released g.O.Origin.start s c.tell_tx.new.port c.take.new.self c.in-Some.tx c.tell_tx.new.tx c.self.invariant was c.take.ensures.after c.tell_tx.ensures.tx c.tell_tx.ensures.same.0 c.tell_tx.ensures.same.2 one
          c.tell_tx.ensures.port.1 c.tell_tx.ensures.told;
    })
