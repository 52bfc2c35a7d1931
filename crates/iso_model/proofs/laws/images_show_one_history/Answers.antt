use Rattle.iso_model.proofs.Teeth.{shows_what_it_holds, shows_one_history}

pub returns-clause-held : Rattle.iso_model.proofs.laws.images_show_one_history.Goals.returns-clause-held
returns-clause-held _ = shows_what_it_holds

pub returns-clause-one : Rattle.iso_model.proofs.laws.images_show_one_history.Goals.returns-clause-one
returns-clause-one _ = shows_one_history
