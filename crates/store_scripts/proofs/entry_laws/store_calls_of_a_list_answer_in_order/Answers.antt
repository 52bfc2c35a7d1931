use Rattle.store_scripts.proofs.Listed.{files_answer_at, stores_answer_at}

pub returns-clause-stores : Rattle.store_scripts.proofs.entry_laws.store_calls_of_a_list_answer_in_order.Goals.returns-clause-stores
returns-clause-stores _ = stores_answer_at

pub returns-clause-files : Rattle.store_scripts.proofs.entry_laws.store_calls_of_a_list_answer_in_order.Goals.returns-clause-files
returns-clause-files _ = files_answer_at
