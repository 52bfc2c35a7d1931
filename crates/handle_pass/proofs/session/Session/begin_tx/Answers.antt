use Rattle.handle_pass.proofs.{Words.{ap, subst, sym, ◌∙◌, ℕ, Some, Checked, Begin, IsPrefix, prefix_self, view, checked_of, own_of, state_of, Made}, Entering.{is_none, made_new, made_port, new_own}}

pub returns-in-Ok-clause-did : Rattle.handle_pass.proofs.session.Session.begin_tx.Goals.returns-in-Ok-clause-did
returns-in-Ok-clause-did g c =
    let A = g.O.Origin.start in
    let s = c.self.inside in
    let t = c.in-Ok.tx in
    let none = is_none s.tx (sym c.is_some.ensures ∙ c.if-is_some.false) in
    let new = c.in-Ok.ensures.new in
    let made = made_new A s c.begin.new.port c.attach.new.place t (Begin t.number t.work.begin t.work.mode) c.self.invariant none c.attach.ensures c.in-Ok.ensures.made new.1 new.2 c.in-Ok.ensures.units in
    rw (← c.self.view_is) (
      ap own_of none,
      t.number,
      t.work.mode,
      subst (λ (at : ℕ). Made A (state_of s) (state_of (record { shared = s.shared; port = c.begin.new.port; tx = c.attach.new.place })) (Begin t.number at t.work.mode)) (sym c.at-at.ensures) made,
      c.in-Ok.ensures.tx.2,
      ap own_of c.attach.ensures ∙ ap Some (new_own t c.at-at.result c.at-at.ensures c.in-Ok.ensures.tx.1),
    )

pub returns-in-Err-clause-did : Rattle.handle_pass.proofs.session.Session.begin_tx.Goals.returns-in-Err-clause-did
returns-in-Err-clause-did g c =
    let s = c.self.inside in
    let none = ap own_of (is_none s.tx (sym c.is_some.ensures ∙ c.if-is_some.false)) in
    let m = c.in-Err.ensures.err in
    rw (← c.self.view_is) (none, none, m.0, m.1, made_port g.O.Origin.start s c.begin.new.port _ c.self.invariant m.2 c.in-Err.ensures.units)

pub returns-in-Ok-clause-checked : Rattle.handle_pass.proofs.session.Session.begin_tx.Goals.returns-in-Ok-clause-checked
returns-in-Ok-clause-checked g c = ap checked_of c.attach.ensures ∙ ap (λ (k : Checked). k.upto) c.in-Ok.ensures.checked ∙ sym c.at-at.ensures

pub invariant_of-self : Rattle.handle_pass.proofs.session.Session.begin_tx.Goals.invariant_of-self
invariant_of-self g c =
    let new = c.in-Ok.ensures.new in
    let knows = subst (IsPrefix (view c.in-Ok.tx.pass).seen) new.0 (prefix_self _) in
    rw c.attach.ensures (record { image = c.self.invariant.image; port = c.in-Ok.ensures.port; tx = (c.in-Ok.ensures.tx.0, knows); one = new.2 })
