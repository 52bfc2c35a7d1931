use Rattle.store_laws.proofs.{Words.{arith, inl, zeros, hash_area, tree_area, limits, hash_area_is, tree_area_is}, Zeros.zeros_blank}
use Rattle.store_laws.proofs.HashBlank as hash
use Rattle.store_laws.proofs.TreeBlank as tree

pub returns : Rattle.store_laws.proofs.both_laws.stores_of_an_image_are_apart.Goals.returns
returns _ = record {
  disjoint = λ g. inl (omega arith);
  areas = λ g valid first second. (hash_area_is g valid first, tree_area_is g valid second);
  made = λ g valid first second.
      let regions = (limits g valid).regions in
      let A = zeros g.block g.blocks in
      record {
        first = hash.blank_region (hash_area g) A (hash_area_is g valid first) (zeros_blank (hash_area g) g.blocks (omega arith));
        second = tree.blank_region (tree_area g) A (tree_area_is g valid second) (zeros_blank (tree_area g) g.blocks (omega arith));
      };
}
