use Rattle.top_laws.proofs.ListLaws.{commits_stay, commits_there, goes_on}

pub returns-clause-exit : Rattle.top_laws.proofs.laws.commits_of_clients_are_there.Goals.returns-clause-exit
returns-clause-exit g c = λ name status old new input_old input_new output_old output_new. commits_there g.I.Disk.state name status old new input_old input_new output_old output_new

pub returns-clause-order : Rattle.top_laws.proofs.laws.commits_of_clients_are_there.Goals.returns-clause-order
returns-clause-order g c = λ name status old new input_old input_new output_old output_new. goes_on g.I.Disk.state name status old new input_old input_new output_old output_new

pub returns-clause-stays : Rattle.top_laws.proofs.laws.commits_of_clients_are_there.Goals.returns-clause-stays
returns-clause-stays g c = λ name status old new input_old input_new output_old output_new. commits_stay g.I.Disk.state name status old new input_old input_new output_old output_new
