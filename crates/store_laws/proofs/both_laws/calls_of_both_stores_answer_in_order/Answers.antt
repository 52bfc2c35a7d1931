use Rattle.store_laws.proofs.{Words.{hash_store, hash_is_of_its_blocks, tree_store, tree_is_of_its_blocks}, TwoStores.{both_answer, both_shown_answer}}

pub returns-clause-history : Rattle.store_laws.proofs.both_laws.calls_of_both_stores_answer_in_order.Goals.returns-clause-history
returns-clause-history _ = λ a b g H n one two. both_answer (hash_store a) (tree_store b) (hash_is_of_its_blocks a one) (tree_is_of_its_blocks b two) g H n

pub returns-clause-live : Rattle.store_laws.proofs.both_laws.calls_of_both_stores_answer_in_order.Goals.returns-clause-live
returns-clause-live _ = λ a b A one two. both_shown_answer (hash_store a) (tree_store b) (hash_is_of_its_blocks a one) (tree_is_of_its_blocks b two) A
