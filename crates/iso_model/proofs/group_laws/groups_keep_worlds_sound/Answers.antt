use Rattle.iso_model.proofs.Groups.{group_leads, group_step_leads}

pub returns-clause-members : Rattle.iso_model.proofs.group_laws.groups_keep_worlds_sound.Goals.returns-clause-members
returns-clause-members c = group_leads

pub returns-clause-labels : Rattle.iso_model.proofs.group_laws.groups_keep_worlds_sound.Goals.returns-clause-labels
returns-clause-labels c = group_step_leads
