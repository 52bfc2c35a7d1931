use Rattle.iso_shared.proofs.Follows.{histories_grow}

pub returns : Rattle.iso_shared.proofs.laws.histories_of_lists_grow.Goals.returns
returns c = histories_grow
