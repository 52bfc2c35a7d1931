use Rattle.store_laws.proofs.{Words.{tree_store, files_are_of_their_blocks, file_store}, Looking.{commit_looks, live_looks}}

pub returns-clause-commits : Rattle.store_laws.proofs.file_laws.looks_into_the_tree_beside_files_answer.Goals.returns-clause-commits
returns-clause-commits _ = λ b g H n areas. commit_looks (file_store b) (tree_store b.tree) (files_are_of_their_blocks b areas) (λ A regions. regions.tree) g H n

pub returns-clause-live : Rattle.store_laws.proofs.file_laws.looks_into_the_tree_beside_files_answer.Goals.returns-clause-live
returns-clause-live _ = λ b A areas regions parts made. live_looks (file_store b) (tree_store b.tree) (files_are_of_their_blocks b areas) (λ B is. is.tree) A parts made regions
