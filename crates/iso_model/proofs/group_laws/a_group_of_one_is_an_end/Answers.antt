use Rattle.iso_model.proofs.Groups.{group_of_one}

pub returns : Rattle.iso_model.proofs.group_laws.a_group_of_one_is_an_end.Goals.returns
returns c = group_of_one
