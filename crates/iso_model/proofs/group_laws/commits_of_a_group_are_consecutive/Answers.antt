use Rattle.iso_model.proofs.Groups.{consecutive}

pub returns : Rattle.iso_model.proofs.group_laws.commits_of_a_group_are_consecutive.Goals.returns
returns c = consecutive
