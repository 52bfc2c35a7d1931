use Rattle.handle_pass.proofs.{Words.{ap, subst, sym, ◌∙◌, Wrote, Seen, seen_by}, Looking.wrote}

pub write_block-requires : Rattle.handle_pass.proofs.visitor.Visitor.write.Goals.write_block-requires
write_block-requires g c = record { size = c.requires ∙ sym (ap (λ (v : Seen). v.tx.size) c.self.view_is) }

pub invariant_of-self : Rattle.handle_pass.proofs.visitor.Visitor.write.Goals.invariant_of-self
invariant_of-self g c =
    let r = c.write_block in (
      c.self.invariant.0,
      (wrote g.O.Origin.start g.V.Visit.before c.self.inside.session.now r.new.self c.self.inside.failures c.self.inside.is_down c.args.block c.args.bytes.now r.result c.self.invariant.1 r.ensures.cause r.ensures.did).visit,
    )

pub returns : Rattle.handle_pass.proofs.visitor.Visitor.write.Goals.returns
returns g c =
    let r = c.write_block in
    record {
      did = subst (λ (v : Seen). Wrote v (seen_by g.O.Origin.start g.V.Visit.before r.new.self c.self.inside.failures c.self.inside.is_down) c.args.block c.args.bytes.now r.result) c.self.view_is
          (wrote g.O.Origin.start g.V.Visit.before c.self.inside.session.now r.new.self c.self.inside.failures c.self.inside.is_down c.args.block c.args.bytes.now r.result c.self.invariant.1 r.ensures.cause r.ensures.did).seen;
    }
