use Rattle.mv_index.proofs.Hiding.{hidden_of, of_hidden}

pub returns : Rattle.mv_index.proofs.laws.hidden_versions_are_dropped.Goals.returns
returns _ = λ t v later. (hidden_of t v later, of_hidden t v later)
