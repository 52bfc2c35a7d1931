use Rattle.iso_image.proofs.Histories.{held_once, opened_half}

pub returns-clause-one : Rattle.iso_image.proofs.laws.images_hold_one_half.Goals.returns-clause-one
returns-clause-one _ = held_once

pub returns-clause-image : Rattle.iso_image.proofs.laws.images_hold_one_half.Goals.returns-clause-image
returns-clause-image _ = λ g x bytes has. has.image

pub returns-clause-opened : Rattle.iso_image.proofs.laws.images_hold_one_half.Goals.returns-clause-opened
returns-clause-opened _ = opened_half
