use Rattle.handle_pass.proofs.{Words.{ap, sym, ◌∙◌, Seen}, Looking.tried}

pub read_block-answer-requires : Rattle.handle_pass.proofs.visitor.Visitor.fetch.Goals.read_block-answer-requires
read_block-answer-requires g c = record { size = c.requires.size ∙ sym (ap (λ (v : Seen). v.tx.size) c.self.view_is) }

pub invariant_of-self : Rattle.handle_pass.proofs.visitor.Visitor.fetch.Goals.invariant_of-self
invariant_of-self g c =
    let r = c.read_block-answer in
    let size = r.auto.into ∙ c.requires.size ∙ sym (ap (λ (v : Seen). v.tx.size) c.self.view_is) in (
      c.self.invariant.0,
      (tried g.O.Origin.start g.V.Visit.before c.self.inside.session.now r.new.self c.self.inside.failures c.self.inside.is_down c.failures_of-self-inside.result c.sets_down-self-inside.result c.args.self.now c.args.block r.result
          r.new.into c.self.view_is c.requires.sound c.self.invariant.1 r.ensures.cause r.ensures.did size c.failures_of-self-inside.ensures c.sets_down-self-inside.ensures).0,
    )

pub returns : Rattle.handle_pass.proofs.visitor.Visitor.fetch.Goals.returns
returns g c =
    let r = c.read_block-answer in
    let size = r.auto.into ∙ c.requires.size ∙ sym (ap (λ (v : Seen). v.tx.size) c.self.view_is) in
    record {
      did = (tried g.O.Origin.start g.V.Visit.before c.self.inside.session.now r.new.self c.self.inside.failures c.self.inside.is_down c.failures_of-self-inside.result c.sets_down-self-inside.result c.args.self.now c.args.block r.result
          r.new.into c.self.view_is c.requires.sound c.self.invariant.1 r.ensures.cause r.ensures.did size c.failures_of-self-inside.ensures c.sets_down-self-inside.ensures).1;
    }
