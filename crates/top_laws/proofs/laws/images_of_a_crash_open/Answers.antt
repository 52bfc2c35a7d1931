use Rattle.top_laws.proofs.Plainly.{clients_open, exit_opens, since_opens, told_opens}

pub returns-clause-since : Rattle.top_laws.proofs.laws.images_of_a_crash_open.Goals.returns-clause-since
returns-clause-since g c = λ made name e old new input_old input_new output_old output_new. since_opens g.I.Disk.state name old new input_old input_new output_old output_new made e

pub returns-clause-exit : Rattle.top_laws.proofs.laws.images_of_a_crash_open.Goals.returns-clause-exit
returns-clause-exit g c = λ made name e old new input_old input_new output_old output_new. exit_opens g.I.Disk.state name old new input_old input_new output_old output_new made e

pub returns-clause-told : Rattle.top_laws.proofs.laws.images_of_a_crash_open.Goals.returns-clause-told
returns-clause-told g c = λ made name e old new input_old input_new output_old output_new. told_opens g.I.Disk.state name old new input_old input_new output_old output_new made e

pub returns-clause-clients : Rattle.top_laws.proofs.laws.images_of_a_crash_open.Goals.returns-clause-clients
returns-clause-clients g c = λ name status old new input_old input_new output_old output_new. clients_open g.I.Disk.state name old new input_old input_new output_old output_new status
