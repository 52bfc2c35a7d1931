use Rattle.iso_model.proofs.Isolation.{next_is_serial, next_is_snapshot}

pub returns-clause-serial : Rattle.iso_model.proofs.laws.no_clash_isolates.Goals.returns-clause-serial
returns-clause-serial _ = next_is_serial

pub returns-clause-snapshot : Rattle.iso_model.proofs.laws.no_clash_isolates.Goals.returns-clause-snapshot
returns-clause-snapshot _ = next_is_snapshot
