use Rattle.top_laws.proofs.Statuses.{given_stays, made_is_empty}

pub returns-clause-given : Rattle.top_laws.proofs.laws.nothing_was_begun.Goals.returns-clause-given
returns-clause-given g c = λ e name image old new input_old input_new output_old output_new. given_stays g.I.Disk.state name old new input_old input_new output_old output_new e image

pub returns-clause-made : Rattle.top_laws.proofs.laws.nothing_was_begun.Goals.returns-clause-made
returns-clause-made g c = λ geometry e name old new input_old input_new output_old output_new. made_is_empty g.I.Disk.state name old new input_old input_new output_old output_new geometry e
