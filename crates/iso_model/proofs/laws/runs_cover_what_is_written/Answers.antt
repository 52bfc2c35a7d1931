use Rattle.iso_model.proofs.{Words.{arith}, Unique.same_runs, Lookups.value_runs, Maximal.are_runs}

pub returns-clause-maximal : Rattle.iso_model.proofs.laws.runs_cover_what_is_written.Goals.returns-clause-maximal
returns-clause-maximal c = are_runs

pub returns-clause-values : Rattle.iso_model.proofs.laws.runs_cover_what_is_written.Goals.returns-clause-values
returns-clause-values c = value_runs

pub returns-clause-only : Rattle.iso_model.proofs.laws.runs_cover_what_is_written.Goals.returns-clause-only
returns-clause-only c = grind (arith, same_runs, are_runs, value_runs)
