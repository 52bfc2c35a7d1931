use Rattle.iso_shared.proofs.{Words.{subst, sym, IsTxOf}, Begins.gone_on}

pub returns-clause-tx : Rattle.iso_shared.proofs.tx.Tx.put.Goals.returns-clause-tx
returns-clause-tx g c = subst (IsTxOf g.O.Origin.start) (sym c.uncheck.ensures.same) (gone_on c.args.self.now c.put.new.self c.put.ensures c.requires.tx)
