use Rattle.iso_model.proofs.Isolation.{stays_serial, stays_snapshot, stays_isolated}

pub returns-clause-serial : Rattle.iso_model.proofs.laws.commits_stay_isolated.Goals.returns-clause-serial
returns-clause-serial _ = stays_serial

pub returns-clause-snapshot : Rattle.iso_model.proofs.laws.commits_stay_isolated.Goals.returns-clause-snapshot
returns-clause-snapshot _ = stays_snapshot

pub returns-clause-all : Rattle.iso_model.proofs.laws.commits_stay_isolated.Goals.returns-clause-all
returns-clause-all _ = stays_isolated
