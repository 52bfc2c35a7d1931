use Rattle.top_laws.proofs.Statuses.{input_fault_of_new, input_fault_of_par, input_fault_of_run}

pub returns-clause-made : Rattle.top_laws.proofs.laws.the_input_fault_was_told.Goals.returns-clause-made
returns-clause-made g c = λ geometry name old new input_old input_new output_old output_new. input_fault_of_new g.I.Disk.state name old new input_old input_new output_old output_new geometry

pub returns-clause-given : Rattle.top_laws.proofs.laws.the_input_fault_was_told.Goals.returns-clause-given
returns-clause-given g c = λ name image old new input_old input_new output_old output_new. input_fault_of_run g.I.Disk.state name old new input_old input_new output_old output_new image

pub returns-clause-clients : Rattle.top_laws.proofs.laws.the_input_fault_was_told.Goals.returns-clause-clients
returns-clause-clients g c = λ name image old new input_old input_new output_old output_new. input_fault_of_par g.I.Disk.state name old new input_old input_new output_old output_new image
