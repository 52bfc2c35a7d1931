use Rattle.handle_pass.proofs.Beginning.{visit_begins}

pub invariant_of-visitor : Rattle.handle_pass.proofs.session.Session.blocks.Goals.invariant_of-visitor
invariant_of-visitor g c = (c.requires.name, visit_begins g.O.Origin.start c.args.self.now g.V.Visit.before c.requires.before c.room.ensures.begun c.requires.valid c.room.ensures.few)

pub invariant_of-result : Rattle.handle_pass.proofs.session.Session.blocks.Goals.invariant_of-result
invariant_of-result g c = record { limits = (visit_begins g.O.Origin.start c.args.self.now g.V.Visit.before c.requires.before c.room.ensures.begun c.requires.valid c.room.ensures.few).limits }
