use Rattle.handle_pass.proofs.{Words.{◌∙◌, ap, refl, subst, sym, None, Option, view, EndsWith, own_of, Own, SessionState}, Entering.made_gone}

pub returns-in-Some-clause-did : Rattle.handle_pass.proofs.session.Session.finish.Goals.returns-in-Some-clause-did
returns-in-Some-clause-did g c =
    let A = g.O.Origin.start in
    let s = c.self.inside in
    let made = made_gone A s c.abort.new.port None c.in-Some.tx _ c.self.invariant c.in-Some.is refl c.abort.ensures.made c.abort.ensures.units in
    let was = sym (ap (λ (x : SessionState). x.own) c.self.view_is) ∙ ap own_of c.in-Some.is in
    subst (λ (o : Option Own). EndsWith A c.args.self o (view c.abort.new.port.pass)) (sym was) (rw (← c.self.view_is) made.entered)
