use Rattle.store_scripts.proofs.{Words.{the_files, the_tree}, Blocks.{files_second, tree_second}, Refusals.{read_keeps, refused_keeps}}

pub returns : Rattle.store_scripts.proofs.laws.refused_store_calls_keep_to_the_stores.Goals.returns
returns _ = record {
  stores = λ W client op is calls none notes number. refused_keeps the_tree tree_second W notes client number op is calls none;
  files = λ W client op is calls none notes number. refused_keeps the_files files_second W notes client number op is calls none;
  reads = λ W client name off len is none notes number. read_keeps the_files files_second W notes client number name off len is none;
}
