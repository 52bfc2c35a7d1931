use Rattle.iso_image.proofs.Empty.{empty_held}

pub returns : Rattle.iso_image.proofs.laws.a_new_image_holds_the_empty_history.Goals.returns
returns _ = empty_held
