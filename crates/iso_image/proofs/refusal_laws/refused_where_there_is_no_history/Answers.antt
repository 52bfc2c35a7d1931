use Rattle.iso_image.proofs.ImageLaws.{image_opens, opened_image, unrefused}

pub returns-clause-opened : Rattle.iso_image.proofs.refusal_laws.refused_where_there_is_no_history.Goals.returns-clause-opened
returns-clause-opened c =
    λ bytes g generation H fits.
    (opened_image bytes (record { geometry = g; generation = generation; history = H }) fits, λ is. (image_opens bytes g generation H is).opens)

pub returns-clause-refused : Rattle.iso_image.proofs.refusal_laws.refused_where_there_is_no_history.Goals.returns-clause-refused
returns-clause-refused c =
    λ bytes fits.
    (λ free. let found = unrefused bytes fits free in (found.image.geometry, found.image.generation, found.image.history, found.is), λ is. (image_opens bytes is.0 is.1 is.2 is.3).free)
