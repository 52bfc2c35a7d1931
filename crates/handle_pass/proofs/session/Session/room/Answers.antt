use Rattle.handle_pass.proofs.{Words.{subst, HasItsBegin, SessionState}, Begun.has_begin}

pub returns-in-Some-clause-begun : Rattle.handle_pass.proofs.session.Session.room.Goals.returns-in-Some-clause-begun
returns-in-Some-clause-begun g c = subst (λ (s : SessionState). HasItsBegin g.O.Origin.start s) c.self.view_is (has_begin g.O.Origin.start c.self.inside c.self.invariant)
