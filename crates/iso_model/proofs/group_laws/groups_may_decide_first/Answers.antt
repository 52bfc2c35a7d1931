use Rattle.iso_model.proofs.Groups.{group_is}

pub returns : Rattle.iso_model.proofs.group_laws.groups_may_decide_first.Goals.returns
returns c = group_is
