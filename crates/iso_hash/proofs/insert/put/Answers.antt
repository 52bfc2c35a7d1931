use Rattle.iso_hash.proofs.{Words.{arith, ◌∙◌, sym, refl, subst, Area, put_program, area_of, HasRun, ended_from}, Storing.{put_bad_key, put_bad_value, put_call}}

pub returns-then-not-is_key-clause-ended : Rattle.iso_hash.proofs.insert.put.Goals.returns-then-not-is_key-clause-ended
returns-then-not-is_key-clause-ended g c = grind (arith, put_bad_key)

pub returns-then-not-is_value-clause-ended : Rattle.iso_hash.proofs.insert.put.Goals.returns-then-not-is_value-clause-ended
returns-then-not-is_value-clause-ended g c = grind (arith, put_bad_value)

pub returns-clause-ended : Rattle.iso_hash.proofs.insert.put.Goals.returns-clause-ended
returns-clause-ended g c = grind (arith, ended_from)

pub returns-clause-local : Rattle.iso_hash.proofs.insert.put.Goals.returns-clause-local
returns-clause-local g c =
    let state = g.T.TxBlocks.state in
    put_call (area_of (state c.args.tx.now) c.args.region) c.args.key.now c.args.value.now (state c.args.tx.now) (state c.put_with.new.tx) c.put_with.result c.requires.area
    (sym c.is_key.ensures ∙ c.if-not-is_key.false) (sym c.is_value.ensures ∙ c.if-not-is_value.false) (g.met.T.TxBlocks.limits c.args.tx.now) refl c.requires.fits
    (subst (λ (a : Area). HasRun (put_program a c.args.key.now c.args.value.now) (state c.args.tx.now) (state c.put_with.new.tx) c.put_with.result) c.area_of-area.ensures c.put_with.ensures.run)
