use Rattle.tx_table.proofs.{Words.{subst, AreBefore}, Begins.before_last, Behind.before_behind}

pub returns : Rattle.tx_table.proofs.live.Live.is_next.Goals.returns
returns c =
    subst (AreBefore c.args.tx c.args.at) c.self.view_is
    (before_behind c.args.tx c.args.at c.self.inside.past c.self.inside.begins.entries
    (before_last c.args.tx c.args.at (c.in-Some.last.now, c.in-Some.begun.now) c.self.inside.begins.entries c.in-Some.ensures.entry c.self.invariant.1.rise c.self.invariant.1.begin c.if-tx-last.false c.if-at-begun.false))
