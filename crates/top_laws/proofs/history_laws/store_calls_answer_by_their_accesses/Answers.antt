use Rattle.top_laws.proofs.Accessed.{files_by_accesses, tree_by_accesses}
use Rattle.top_laws.proofs.history_laws.store_calls_answer_by_their_accesses.Goals as goal

pub returns-clause-tree : goal.returns-clause-tree
returns-clause-tree g c = λ made name e old new input_old input_new output_old output_new a. tree_by_accesses a.world a.run.answered.final a.run.answered.final_is.leads

pub returns-clause-files : goal.returns-clause-files
returns-clause-files g c = λ made name e old new input_old input_new output_old output_new a. files_by_accesses a.world a.run.answered.final a.run.answered.final_is.leads
