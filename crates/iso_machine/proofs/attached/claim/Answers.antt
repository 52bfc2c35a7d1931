use Rattle.iso_machine.proofs.{Words.{◌∙◌, sym, is_under_label}, Whereabouts.nobody_there}

pub returns-in_default-clause-found : Rattle.iso_machine.proofs.attached.claim.Goals.returns-in_default-clause-found
returns-in_default-clause-found c =
    nobody_there (is_under_label c.args.label.now) c.args.live.now (c.requires.listed.labels c.args.label.now c.put_label.ensures.label (sym c.in_ok-earlier.ensures.earlier ∙ c.in_default.is))

pub index_under_label-requires-clause-nobody : Rattle.iso_machine.proofs.attached.claim.Goals.index_under_label-requires-clause-nobody
index_under_label-requires-clause-nobody c none = absurd (cc none)
