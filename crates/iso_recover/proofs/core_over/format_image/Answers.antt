use Rattle.iso_recover.proofs.Words.{subst, World, empty_history, fresh, StandsFor, up}

pub returns-in-Ok-clause-stands : Rattle.iso_recover.proofs.core_over.format_image.Goals.returns-in-Ok-clause-stands
returns-in-Ok-clause-stands g c =
    let (geometry, generation, is) = c.in-Ok.ensures.made in
    subst (λ (W : World). StandsFor g.D.Disk.state c.over.result W up) (λ i. fresh (geometry i) (generation i) (empty_history c.args.geometry.now))
    (c.over.ensures.stands (empty_history c.args.geometry.now) is.to is.size is.holds)
