use Rattle.iso_model.proofs.Opened.{opened_is}

pub returns : Rattle.iso_model.proofs.laws.images_open_to_sound_worlds.Goals.returns
returns _ = opened_is
