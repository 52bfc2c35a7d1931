use Rattle.tx_table.proofs.{Words.{subst, AreWithin, Doing}, Last.rows_within}

pub returns-clause-within : Rattle.tx_table.proofs.work.Work.count.Goals.returns-clause-within
returns-clause-within c =
    subst (λ (w : Doing). AreWithin w.size w.blocks w.accesses) c.self.view_is
    (rows_within c.self.inside.size c.self.inside.blocks c.self.inside.rows.items c.self.invariant.2)
