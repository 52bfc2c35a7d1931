use Rattle.iso_shared.proofs.{Words.{subst, sym, IsTxOf}, Begins.gone_on}

pub returns-in-Ok-clause-tx : Rattle.iso_shared.proofs.tx.Tx.mark.Goals.returns-in-Ok-clause-tx
returns-in-Ok-clause-tx g c = subst (IsTxOf g.O.Origin.start) (sym c.uncheck.ensures.same) (gone_on c.args.self.now c.mark.new.self c.in-Ok.ensures.ok.1 c.requires.tx)
