use Rattle.iso_model.proofs.Worlds.{commit_is_record}

pub returns : Rattle.iso_model.proofs.laws.commits_make_records.Goals.returns
returns _ = commit_is_record
