use Rattle.iso_fs.proofs.{Words.{◌∙◌, sym, arith}, Ended.no_memory, RemoveSteps.{remove_bad, remove_call, remove_has}}

pub returns-then-not-is_key-clause-ended : Rattle.iso_fs.proofs.removing.remove.Goals.returns-then-not-is_key-clause-ended
returns-then-not-is_key-clause-ended g c = grind (arith, remove_bad) steps 100000

pub returns-in-Err-clause-ended : Rattle.iso_fs.proofs.removing.remove.Goals.returns-in-Err-clause-ended
returns-in-Err-clause-ended g c = grind (arith, no_memory, remove_has) steps 100000

pub returns-clause-local : Rattle.iso_fs.proofs.removing.remove.Goals.returns-clause-local
returns-clause-local g c =
    remove_call (g.T.TxBlocks.state c.args.tx.now) (g.T.TxBlocks.state c.remove_with.new.tx) c.args.at c.args.name.now c.remove_with.result (g.met.T.TxBlocks.limits c.args.tx.now) c.requires.areas c.requires.fits (sym c.is_key.ensures ∙ c.if-not-is_key.false)
    (rw c.areas_of-a.ensures at c.remove_with.ensures.run)
