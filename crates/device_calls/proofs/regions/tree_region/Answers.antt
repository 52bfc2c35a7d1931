use Rattle.device_calls.proofs.Words.{arith, refl, limits, tree_area_is}

pub returns-clause-area : Rattle.device_calls.proofs.regions.tree_region.Goals.returns-clause-area
returns-clause-area c = (refl, tree_area_is c.args.geometry.now c.requires.valid (λ e. absurd (omega (arith, c.if-geometry-eq0.false, e))))

pub returns-clause-fits : Rattle.device_calls.proofs.regions.tree_region.Goals.returns-clause-fits
returns-clause-fits c = omega (arith, (limits c.args.geometry.now c.requires.valid).regions)
