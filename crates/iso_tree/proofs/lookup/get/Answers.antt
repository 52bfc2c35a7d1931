use Rattle.iso_tree.proofs.{Words.{arith, ◌∙◌, sym, area_of}, Getting.{bad_key, local_any}}

pub returns-then-not-is_key-clause-ended : Rattle.iso_tree.proofs.lookup.get.Goals.returns-then-not-is_key-clause-ended
returns-then-not-is_key-clause-ended g c =
    bad_key (area_of (g.T.TxBlocks.state c.args.tx.now) c.args.region) c.args.key.now (g.T.TxBlocks.state c.args.tx.now) (sym c.is_key.ensures ∙ c.if-not-is_key.true)

pub returns-clause-local : Rattle.iso_tree.proofs.lookup.get.Goals.returns-clause-local
returns-clause-local g c = grind (arith, local_any)
