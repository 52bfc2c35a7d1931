use Rattle.iso_model.proofs.{Recorded.same_effect, Unique.runs_recorded}

pub returns-clause-effect : Rattle.iso_model.proofs.laws.records_keep_the_effect.Goals.returns-clause-effect
returns-clause-effect c = same_effect

pub returns-clause-runs : Rattle.iso_model.proofs.laws.records_keep_the_effect.Goals.returns-clause-runs
returns-clause-runs c = runs_recorded
