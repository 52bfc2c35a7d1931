-- A tree region depends on the blocks of its area alone.
use Rattle.store_model.specs.{declared.stores.Area.Area, TreeRegion.IsTreeArea}
use Rattle.iso_tree.proofs.TreeBlocks.{map_new, region_new}
use Rattle.store_laws.specs.{Region.IsOfItsBlocks, Tree.tree_store}

pub tree_is_of_its_blocks : (a : Area) → IsTreeArea a → IsOfItsBlocks (tree_store a)
tree_is_of_its_blocks a area = record {
  well_formed = λ A B same region. region_new a A B area same region;
  map_is = λ A B same region. map_new a A B area same region;
}
