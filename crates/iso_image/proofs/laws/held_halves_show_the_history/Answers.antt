use Rattle.iso_image.proofs.Histories.{half_shows}

pub returns : Rattle.iso_image.proofs.laws.held_halves_show_the_history.Goals.returns
returns _ = half_shows
