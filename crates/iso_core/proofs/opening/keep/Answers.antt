use Rattle.iso_core.proofs.{Words.refl, Openings.opens_so}

pub returns-clause-kept : Rattle.iso_core.proofs.opening.keep.Goals.returns-clause-kept
returns-clause-kept c H is = opens_so H c.args.opened _ is refl refl refl refl refl refl refl refl c.empty.ensures c.empty-2.ensures
