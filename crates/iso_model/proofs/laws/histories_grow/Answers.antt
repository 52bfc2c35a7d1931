use Rattle.iso_model.proofs.{Growth.{empty_is, appended_is}, Recorded.array_shape}

pub returns-clause-empty : Rattle.iso_model.proofs.laws.histories_grow.Goals.returns-clause-empty
returns-clause-empty _ = λ g. (empty_is g, λ k from to. tt)

pub returns-clause-appended : Rattle.iso_model.proofs.laws.histories_grow.Goals.returns-clause-appended
returns-clause-appended _ = appended_is

pub returns-clause-arrays : Rattle.iso_model.proofs.laws.histories_grow.Goals.returns-clause-arrays
returns-clause-arrays _ = array_shape
