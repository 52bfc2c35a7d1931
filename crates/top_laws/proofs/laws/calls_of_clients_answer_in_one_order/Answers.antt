use Rattle.top_laws.proofs.ListLaws.{file_calls, tree_calls}

pub returns-clause-tree : Rattle.top_laws.proofs.laws.calls_of_clients_answer_in_one_order.Goals.returns-clause-tree
returns-clause-tree g c = λ name status parts old new input_old input_new output_old output_new r. tree_calls g.I.Disk.state name status old new input_old input_new output_old output_new r parts

pub returns-clause-files : Rattle.top_laws.proofs.laws.calls_of_clients_answer_in_one_order.Goals.returns-clause-files
returns-clause-files g c = λ name status parts old new input_old input_new output_old output_new r. file_calls g.I.Disk.state name status old new input_old input_new output_old output_new r parts
