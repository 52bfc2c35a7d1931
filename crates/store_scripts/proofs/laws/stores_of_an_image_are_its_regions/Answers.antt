use Rattle.store_scripts.proofs.{Words.{IsHashRegion, hash_map, hash_area, tree_area, IsTreeRegion, tree_map, AreFileRegions, file_blocks, files, files_area}, Images.{begins_well, files_begin_well, if_any_is, none_is_empty}}

pub returns : Rattle.store_scripts.proofs.laws.stores_of_an_image_are_its_regions.Goals.returns
returns _ = record {
  hash = λ g some A. if_any_is g.hash (IsHashRegion (hash_area g) A) (hash_map (hash_area g) A) some;
  tree = λ g some A. if_any_is g.tree (IsTreeRegion (tree_area g) A) (tree_map (tree_area g) A) some;
  files = λ g some A. if_any_is (file_blocks g) (AreFileRegions (files_area g) A) (files (files_area g) A) some;
  no_hash = λ g A. none_is_empty g.hash (hash_map (hash_area g) A);
  no_tree = λ g A. none_is_empty g.tree (tree_map (tree_area g) A);
  no_files = λ g A. none_is_empty (file_blocks g) (files (files_area g) A);
  made = begins_well;
  made_files = files_begin_well;
}
