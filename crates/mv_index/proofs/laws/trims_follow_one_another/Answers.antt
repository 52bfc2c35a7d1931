use Rattle.mv_index.proofs.Again.{shown_again}

pub returns : Rattle.mv_index.proofs.laws.trims_follow_one_another.Goals.returns
returns _ = shown_again
