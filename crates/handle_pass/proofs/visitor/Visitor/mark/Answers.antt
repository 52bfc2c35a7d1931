use Rattle.handle_pass.proofs.{Words.{subst, Marked, Seen, seen_by}, Looking.marked_by}

pub invariant_of-self : Rattle.handle_pass.proofs.visitor.Visitor.mark.Goals.invariant_of-self
invariant_of-self g c =
    let r = c.mark_accessed in (
      c.self.invariant.0,
      (marked_by g.O.Origin.start g.V.Visit.before c.self.inside.session.now r.new.self c.self.inside.failures c.self.inside.is_down c.args.off c.args.len r.result c.self.invariant.1 r.ensures.cause r.ensures.did).visit,
    )

pub returns : Rattle.handle_pass.proofs.visitor.Visitor.mark.Goals.returns
returns g c =
    let r = c.mark_accessed in
    record {
      did = subst (λ (v : Seen). Marked v (seen_by g.O.Origin.start g.V.Visit.before r.new.self c.self.inside.failures c.self.inside.is_down) c.args.off c.args.len r.result) c.self.view_is
          (marked_by g.O.Origin.start g.V.Visit.before c.self.inside.session.now r.new.self c.self.inside.failures c.self.inside.is_down c.args.off c.args.len r.result c.self.invariant.1 r.ensures.cause r.ensures.did).seen;
    }
