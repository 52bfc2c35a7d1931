use Rattle.iso_tree.proofs.{Words.{arith, ◌∙◌, sym, refl, subst, Area, area_of, HasRun, del_program}, Getting.{del_bad_key, del_call}}

pub returns-then-not-is_key-clause-ended : Rattle.iso_tree.proofs.remove.del.Goals.returns-then-not-is_key-clause-ended
returns-then-not-is_key-clause-ended g c = grind (arith, del_bad_key)

pub returns-clause-local : Rattle.iso_tree.proofs.remove.del.Goals.returns-clause-local
returns-clause-local g c =
    let state = g.T.TxBlocks.state in
    del_call (area_of (state c.args.tx.now) c.args.region) c.args.key.now (state c.args.tx.now) (state c.remove_with.new.tx) c.remove_with.result c.requires.area (sym c.is_key.ensures ∙ c.if-not-is_key.false)
    (g.met.T.TxBlocks.limits c.args.tx.now) refl c.requires.fits
    (subst (λ (a : Area). HasRun (del_program a c.args.key.now) (state c.args.tx.now) (state c.remove_with.new.tx) c.remove_with.result) c.area_of-area.ensures c.remove_with.ensures.run)
