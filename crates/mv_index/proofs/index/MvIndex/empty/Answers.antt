use Rattle.mv_index.proofs.Empties.{blank_more}

pub loop-preserved : Rattle.mv_index.proofs.index.MvIndex.empty.Goals.loop-preserved
loop-preserved c = blank_more c.loop.rows.items c.push.new.self.items c.empty.result c.loop.counter c.loop.invariant c.in_ok-push.ensures.items c.empty.ensures
