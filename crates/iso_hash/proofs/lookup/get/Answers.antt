use Rattle.iso_hash.proofs.{Words.{◌∙◌, sym, area_of}, Getting.bad_key}

pub returns-then-not-is_key-clause-ended : Rattle.iso_hash.proofs.lookup.get.Goals.returns-then-not-is_key-clause-ended
returns-then-not-is_key-clause-ended g c =
    bad_key (area_of (g.T.TxBlocks.state c.args.tx.now) c.args.region) c.args.key.now (g.T.TxBlocks.state c.args.tx.now) (sym c.is_key.ensures ∙ c.if-not-is_key.true)
