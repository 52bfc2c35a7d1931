-- Where the stores of a valid image are.
use Rattle.store_calls.proofs.Words.{◌≡◌, ◌≢◌, ◌+◌, ◌-◌, ◌*◌, ◌≤◌, ◌==◌, ◌||◌, ℕ, Bool, true, false, cond, nat_lt, IsTrue, arith, nat_tests, eqb-false, ltb-false, or_parts, refl, ap, Geometry, Op, Begin, End, Abort, Put, Read, Get, Write, Fill, Mark, Release, Takeover, Await, Group, Trim, Stat, Compact, Upgrade, HashPut, HashGet, HashDelete, TreePut, TreeGet, TreeDelete, TreeScan, FileNew, FileWrite, FileRead, FileMove, FileDelete, is_valid, limits, hash_area_is, tree_area_is, AreFileAreas, blocks_behind, file_blocks, files_area, least, AreStoreAreas, store_areas, store_blocks}

-- the lesser of two numbers is neither above the one nor above the other
least_of : (m n : ℕ) → (least m n ≤ m) × (least m n ≤ n)
least_of m n = grind (arith, nat_tests)

-- the files have all blocks after the stores that the map has bits for, or none
chosen : (t : Bool) (n : ℕ) → (cond t 0 n ≢ 0 → t ≡ false) × (cond t 0 n ≤ n)
chosen true n = (λ some. absurd (some refl), omega arith)
chosen false n = (λ some. refl, omega arith)

-- the files of a valid image that has them
files_are : (g : Geometry) → IsTrue (is_valid g) → file_blocks g ≢ 0 → AreFileAreas (files_area g)
files_are g valid some =
    let none : ((g.tree == 0) || nat_lt (blocks_behind g) 2) ≡ false = (chosen _ (blocks_behind g)).0 some in
    let parts = or_parts (g.tree == 0) (nat_lt (blocks_behind g) 2) none in
    let same : file_blocks g ≡ blocks_behind g = ap (λ (t : Bool). cond t 0 (blocks_behind g)) none in
    let two = ltb-false (blocks_behind g) 2 parts.1 in
    let less = least_of (g.blocks - (g.hash + g.tree)) (8 * (g.block - 64)) in
    record {
      tree = tree_area_is g valid (eqb-false g.tree 0 parts.0);
      size = refl;
      follows = refl;
      least = omega (arith, two, same);
      most = omega (arith, same, less.1);
    }

files_fit : (g : Geometry) → IsTrue (is_valid g) → g.hash + g.tree + file_blocks g ≤ g.blocks
files_fit g valid =
    let less = least_of (g.blocks - (g.hash + g.tree)) (8 * (g.block - 64)) in
    let few = (chosen ((g.tree == 0) || nat_lt (blocks_behind g) 2) (blocks_behind g)).1 in
    omega (arith, less.0, few, (limits g valid).regions)

-- a store that is there is where it may be
pub store_areas_are : (g : Geometry) (op : Op) → IsTrue (is_valid g) → store_blocks g op ≢ 0 → AreStoreAreas op (store_areas g op)
store_areas_are g (HashPut key value) valid some = hash_area_is g valid some
store_areas_are g (HashGet key) valid some = hash_area_is g valid some
store_areas_are g (HashDelete key) valid some = hash_area_is g valid some
store_areas_are g (TreePut key value) valid some = tree_area_is g valid some
store_areas_are g (TreeGet key) valid some = tree_area_is g valid some
store_areas_are g (TreeDelete key) valid some = tree_area_is g valid some
store_areas_are g (TreeScan from to most) valid some = tree_area_is g valid some
store_areas_are g (FileNew name) valid some = files_are g valid some
store_areas_are g (FileWrite name off bytes) valid some = files_are g valid some
store_areas_are g (FileRead name off len) valid some = files_are g valid some
store_areas_are g (FileMove from to) valid some = files_are g valid some
store_areas_are g (FileDelete name) valid some = files_are g valid some
store_areas_are g (Begin mode) valid some = tt
store_areas_are g End valid some = tt
store_areas_are g Abort valid some = tt
store_areas_are g (Put block off bytes) valid some = tt
store_areas_are g (Read block) valid some = tt
store_areas_are g (Get block off len) valid some = tt
store_areas_are g (Write block bytes) valid some = tt
store_areas_are g (Fill block bytes) valid some = tt
store_areas_are g (Mark off len) valid some = tt
store_areas_are g (Release text) valid some = tt
store_areas_are g (Takeover text) valid some = tt
store_areas_are g (Await text) valid some = tt
store_areas_are g (Group texts) valid some = tt
store_areas_are g Trim valid some = tt
store_areas_are g Stat valid some = tt
store_areas_are g Compact valid some = tt
store_areas_are g Upgrade valid some = tt

-- and its blocks are the image's
pub store_areas_fit : (g : Geometry) (op : Op) → IsTrue (is_valid g) → (store_areas g op).files.start + store_blocks g op ≤ g.blocks
store_areas_fit g (HashPut key value) valid = omega (arith, (limits g valid).regions)
store_areas_fit g (HashGet key) valid = omega (arith, (limits g valid).regions)
store_areas_fit g (HashDelete key) valid = omega (arith, (limits g valid).regions)
store_areas_fit g (TreePut key value) valid = (limits g valid).regions
store_areas_fit g (TreeGet key) valid = (limits g valid).regions
store_areas_fit g (TreeDelete key) valid = (limits g valid).regions
store_areas_fit g (TreeScan from to most) valid = (limits g valid).regions
store_areas_fit g (FileNew name) valid = files_fit g valid
store_areas_fit g (FileWrite name off bytes) valid = files_fit g valid
store_areas_fit g (FileRead name off len) valid = files_fit g valid
store_areas_fit g (FileMove from to) valid = files_fit g valid
store_areas_fit g (FileDelete name) valid = files_fit g valid
store_areas_fit g (Begin mode) valid = omega arith
store_areas_fit g End valid = omega arith
store_areas_fit g Abort valid = omega arith
store_areas_fit g (Put block off bytes) valid = omega arith
store_areas_fit g (Read block) valid = omega arith
store_areas_fit g (Get block off len) valid = omega arith
store_areas_fit g (Write block bytes) valid = omega arith
store_areas_fit g (Fill block bytes) valid = omega arith
store_areas_fit g (Mark off len) valid = omega arith
store_areas_fit g (Release text) valid = omega arith
store_areas_fit g (Takeover text) valid = omega arith
store_areas_fit g (Await text) valid = omega arith
store_areas_fit g (Group texts) valid = omega arith
store_areas_fit g Trim valid = omega arith
store_areas_fit g Stat valid = omega arith
store_areas_fit g Compact valid = omega arith
store_areas_fit g Upgrade valid = omega arith
