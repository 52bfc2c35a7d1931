-- The stores of an image, where it has them.
use Rattle.store_scripts.proofs.{Words.{◌≡◌, ◌≢◌, ◌↔◌, refl, ℕ, zero, suc, ◌≤◌, IsTrue, arith, empty, Geometry, LAST, zeros, is_valid, IsHashRegion, Pairs, hash_area, tree_area, IsTreeRegion, empty_history, fresh, limits, empty_world_is, hash_area_is, tree_area_is, zeros_blank, BeginsWell, IfAny, pairs_if_any, file_blocks, files_area, AreFileRegions, the_files, the_tree, made_files}, Blocks.has_files}
use Rattle.store_laws.proofs.HashBlank as hash
use Rattle.store_laws.proofs.TreeBlank as tree

pub if_any_is : (n : ℕ) (P : Type 0) (m : Pairs) → n ≢ 0 → (IfAny n P ↔ P) × (pairs_if_any n m ≡ m)
if_any_is zero P m some = absurd (some refl)
if_any_is (suc n) P m some = (((λ x. x), (λ x. x)), refl)

pub none_is_empty : (n : ℕ) (m : Pairs) → n ≡ 0 → pairs_if_any n m ≡ empty
none_is_empty zero m none = refl
none_is_empty (suc n) m none = absurd (omega arith)

if_any : (n : ℕ) (P : Type 0) → (n ≢ 0 → P) → IfAny n P
if_any zero P is = tt
if_any (suc n) P is = is (λ e. absurd (omega arith))

pub begins_well : (g : Geometry) (generation : ℕ) → IsTrue (is_valid g) → generation ≤ LAST → BeginsWell the_tree (fresh g generation (empty_history g))
begins_well g generation valid few =
    let regions = (limits g valid).regions in
    let A = zeros g.block g.blocks in
    record {
      world = empty_world_is g generation valid few;
      none = refl;
      stores = record {
        first = if_any g.hash (IsHashRegion (hash_area g) A) (λ some. hash.blank_region (hash_area g) A (hash_area_is g valid some) (zeros_blank (hash_area g) g.blocks (omega arith)));
        second = if_any g.tree (IsTreeRegion (tree_area g) A) (λ some. tree.blank_region (tree_area g) A (tree_area_is g valid some) (zeros_blank (tree_area g) g.blocks (omega arith)));
      };
    }

pub files_begin_well : (g : Geometry) (generation : ℕ) → IsTrue (is_valid g) → generation ≤ LAST → BeginsWell the_files (fresh g generation (empty_history g))
files_begin_well g generation valid few =
    let tree = begins_well g generation valid few in
    let A = zeros g.block g.blocks in
    record {
      world = tree.world;
      none = tree.none;
      stores = record {
        first = tree.stores.first;
        second = if_any (file_blocks g) (AreFileRegions (files_area g) A) (λ some. let there = has_files g valid some in (made_files (files_area g) g.blocks there.areas there.behind).0);
      };
    }
