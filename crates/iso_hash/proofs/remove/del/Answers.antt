use Rattle.iso_hash.proofs.{Words.{arith, ◌∙◌, sym, refl, subst, Area, del_program, area_of, HasRun, ended_from}, Storing.{del_bad_key, del_call}}

pub returns-then-not-is_key-clause-ended : Rattle.iso_hash.proofs.remove.del.Goals.returns-then-not-is_key-clause-ended
returns-then-not-is_key-clause-ended g c = grind (arith, del_bad_key)

pub returns-clause-ended : Rattle.iso_hash.proofs.remove.del.Goals.returns-clause-ended
returns-clause-ended g c = grind (arith, ended_from)

pub returns-clause-local : Rattle.iso_hash.proofs.remove.del.Goals.returns-clause-local
returns-clause-local g c =
    let state = g.T.TxBlocks.state in
    del_call (area_of (state c.args.tx.now) c.args.region) c.args.key.now (state c.args.tx.now) (state c.del_with.new.tx) c.del_with.result c.requires.area
    (sym c.is_key.ensures ∙ c.if-not-is_key.false) (g.met.T.TxBlocks.limits c.args.tx.now) refl c.requires.fits
    (subst (λ (a : Area). HasRun (del_program a c.args.key.now) (state c.args.tx.now) (state c.del_with.new.tx) c.del_with.result) c.area_of-area.ensures c.del_with.ensures.run)
