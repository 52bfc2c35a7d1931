use Rattle.top_laws.proofs.Plainly.{given_prints, made_prints}

pub returns-clause-made : Rattle.top_laws.proofs.laws.replies_were_printed.Goals.returns-clause-made
returns-clause-made g c = λ geometry name all old new input_old input_new output_old output_new. made_prints g.I.Disk.state name old new input_old input_new output_old output_new geometry all

pub returns-clause-given : Rattle.top_laws.proofs.laws.replies_were_printed.Goals.returns-clause-given
returns-clause-given g c = λ name all image old new input_old input_new output_old output_new. given_prints g.I.Disk.state name old new input_old input_new output_old output_new all image
