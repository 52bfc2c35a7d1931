use Rattle.top_laws.proofs.Statuses.{bad_line_of_new, bad_line_of_par, bad_line_of_run}

pub returns-clause-made : Rattle.top_laws.proofs.laws.the_bad_line_was_named.Goals.returns-clause-made
returns-clause-made g c = λ geometry name all old new input_old input_new output_old output_new. bad_line_of_new g.I.Disk.state name old new input_old input_new output_old output_new geometry all

pub returns-clause-given : Rattle.top_laws.proofs.laws.the_bad_line_was_named.Goals.returns-clause-given
returns-clause-given g c = λ name all image old new input_old input_new output_old output_new. bad_line_of_run g.I.Disk.state name old new input_old input_new output_old output_new all image

pub returns-clause-clients : Rattle.top_laws.proofs.laws.the_bad_line_was_named.Goals.returns-clause-clients
returns-clause-clients g c = λ name all image old new input_old input_new output_old output_new. bad_line_of_par g.I.Disk.state name old new input_old input_new output_old output_new all image
