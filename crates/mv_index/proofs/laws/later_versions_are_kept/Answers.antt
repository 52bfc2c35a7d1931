use Rattle.mv_index.proofs.Again.{shown_more}

pub returns : Rattle.mv_index.proofs.laws.later_versions_are_kept.Goals.returns
returns _ = shown_more
