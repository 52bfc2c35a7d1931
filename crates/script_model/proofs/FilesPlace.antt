-- Where the files of a valid image are that has room for them.
use Rattle.script_model.proofs.Words.{◌≡◌, ◌≢◌, ap, ℕ, ◌+◌, ◌-◌, ◌*◌, ◌≤◌, ◌==◌, ◌||◌, Bool, true, false, cond, IsTrue, nat_lt, arith, or_parts, eqb-false, ltb-false, Geometry, limits, is_valid, tree_area_is, blocks_behind, file_blocks, files_area, least, refl}
use Rattle.store_model.specs.FileRegion.{AreFileAreas}

pub least_parts : (m n : ℕ) → (least m n ≤ m) × (least m n ≤ n)
least_parts m n = grind arith

some_chosen : (t : Bool) (n : ℕ) → cond t 0 n ≢ 0 → t ≡ false
some_chosen true n some = absurd (some refl)
some_chosen false n some = refl

-- what holds of an image with files
pub record HasFiles (g : Geometry) : Type 0 where
  pub areas : AreFileAreas (files_area g)
  pub tree : g.tree ≢ 0
  pub behind : g.hash + g.tree + file_blocks g ≤ g.blocks

pub has_files : (g : Geometry) → IsTrue (is_valid g) → file_blocks g ≢ 0 → HasFiles g
has_files g valid some =
    let bounds = limits g valid in
    let none : ((g.tree == 0) || nat_lt (blocks_behind g) 2) ≡ false = some_chosen _ (blocks_behind g) some in
    let parts = or_parts (g.tree == 0) (nat_lt (blocks_behind g) 2) none in
    let there : g.tree ≢ 0 = eqb-false g.tree 0 parts.0 in
    let same : file_blocks g ≡ blocks_behind g = ap (λ (t : Bool). cond t 0 (blocks_behind g)) none in
    let two = ltb-false (blocks_behind g) 2 parts.1 in
    let less = least_parts (g.blocks - (g.hash + g.tree)) (8 * (g.block - 64)) in
    record {
      areas = record { tree = tree_area_is g valid there; size = refl; follows = refl; least = omega (arith, two, same); most = omega (arith, same, less.1) };
      tree = there;
      behind = omega (arith, same, less.0, bounds.regions);
    }
