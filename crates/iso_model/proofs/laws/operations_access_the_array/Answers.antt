use Rattle.iso_model.proofs.Accesses.{put_is_access, read_is_access}

pub returns-clause-put : Rattle.iso_model.proofs.laws.operations_access_the_array.Goals.returns-clause-put
returns-clause-put _ = put_is_access

pub returns-clause-read : Rattle.iso_model.proofs.laws.operations_access_the_array.Goals.returns-clause-read
returns-clause-read _ = read_is_access
