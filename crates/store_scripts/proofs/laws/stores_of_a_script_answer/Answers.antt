use Rattle.store_scripts.proofs.Whole.{files_answer, stores_answer}

pub returns-clause-stores : Rattle.store_scripts.proofs.laws.stores_of_a_script_answer.Goals.returns-clause-stores
returns-clause-stores _ = stores_answer

pub returns-clause-files : Rattle.store_scripts.proofs.laws.stores_of_a_script_answer.Goals.returns-clause-files
returns-clause-files _ = files_answer
