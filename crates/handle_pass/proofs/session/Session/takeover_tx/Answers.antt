use Rattle.handle_pass.proofs.{Words.{sym, ◌∙◌}, Entering.is_none, Handing.took_over}

pub returns : Rattle.handle_pass.proofs.session.Session.takeover_tx.Goals.returns
returns g c =
    let s = c.self.inside in
    let none = is_none s.tx (sym c.is_some.ensures ∙ c.if-is_some.false) in
    rw (← c.self.view_is, ← c.handle.view_is) (record {
      did = took_over g.O.Origin.start s c.tell_port.new.port c.attach.new.place c.handle.inside.tx c.tell_port.new.tx c.at-at.result none c.attach.ensures c.tell_port.ensures.same.0 c.tell_port.ensures.tx.1 c.handle.invariant
          c.tell_port.ensures.alike c.at-at.ensures c.tell_port.ensures.told c.tell_port.ensures.begins;
    })
