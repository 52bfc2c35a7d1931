use Rattle.handle_pass.proofs.Looking.{failed_again}

pub invariant_of-self : Rattle.handle_pass.proofs.visitor.Visitor.fail_again.Goals.invariant_of-self
invariant_of-self g c = (
  c.self.invariant.0,
  failed_again g.O.Origin.start g.V.Visit.before c.self.inside.session.now c.self.inside.failures c.raise.new.count c.self.inside.is_down c.args.self.now c.self.view_is c.requires.failed c.if-self.false c.raise.ensures.rose
      c.raise.ensures.later c.self.invariant.1,
)
