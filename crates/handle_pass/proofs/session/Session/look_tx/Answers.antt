use Rattle.handle_pass.proofs.{Words.{IsPrefix, prefix_self, subst, view, ap, sym, ◌∙◌, Checked, checked_of, own_in, own_of}, Entering.{is_none, made_new, made_port}}

pub returns-in-Some-clause-did : Rattle.handle_pass.proofs.session.Session.look_tx.Goals.returns-in-Some-clause-did
returns-in-Some-clause-did g c =
    let s = c.self.inside in
    let t = c.in-Some.tx in
    let none = is_none s.tx (sym c.is_some.ensures ∙ c.if-is_some.false) in
    let new = c.in-Some.ensures.tx in rw (← c.self.view_is) (
      ap own_of none,
      own_in t,
      ap own_of c.attach.ensures,
      c.at-at.ensures,
      made_new g.O.Origin.start s c.look.new.port c.attach.new.place t _ c.self.invariant none c.attach.ensures c.in-Some.ensures.found new.2 new.3 c.in-Some.ensures.units,
    )

pub returns-in-None-clause-did : Rattle.handle_pass.proofs.session.Session.look_tx.Goals.returns-in-None-clause-did
returns-in-None-clause-did g c =
    let s = c.self.inside in
    let none = ap own_of (is_none s.tx (sym c.is_some.ensures ∙ c.if-is_some.false)) in
    rw (← c.self.view_is) (none, none, made_port g.O.Origin.start s c.look.new.port _ c.self.invariant c.in-None.ensures.none c.in-None.ensures.units)

pub returns-in-Some-clause-checked : Rattle.handle_pass.proofs.session.Session.look_tx.Goals.returns-in-Some-clause-checked
returns-in-Some-clause-checked g c = ap checked_of c.attach.ensures ∙ ap (λ (k : Checked). k.upto) c.in-Some.ensures.checked ∙ sym c.at-at.ensures

pub invariant_of-self : Rattle.handle_pass.proofs.session.Session.look_tx.Goals.invariant_of-self
invariant_of-self g c =
    let new = c.in-Some.ensures.tx in
    let knows = subst (IsPrefix (view c.in-Some.tx.pass).seen) new.1 (prefix_self _) in
    rw c.attach.ensures (record { image = c.self.invariant.image; port = c.in-Some.ensures.port; tx = (new.0, knows); one = new.3 })
