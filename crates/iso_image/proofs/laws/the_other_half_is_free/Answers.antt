use Rattle.iso_image.proofs.Others.{beside, beside_closed, beside_older, beside_shut}

pub returns-clause-current : Rattle.iso_image.proofs.laws.the_other_half_is_free.Goals.returns-clause-current
returns-clause-current _ = beside

pub returns-clause-closed : Rattle.iso_image.proofs.laws.the_other_half_is_free.Goals.returns-clause-closed
returns-clause-closed _ = beside_closed

pub returns-clause-older : Rattle.iso_image.proofs.laws.the_other_half_is_free.Goals.returns-clause-older
returns-clause-older _ = beside_older

pub returns-clause-shut : Rattle.iso_image.proofs.laws.the_other_half_is_free.Goals.returns-clause-shut
returns-clause-shut _ = beside_shut
