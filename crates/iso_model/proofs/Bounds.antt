-- What a valid geometry keeps to.
use Rattle.iso_model.proofs.Words.{ℕ, ◌*◌, ◌≤◌, IsTrue, arith, mul-le-mul, and_parts, leb-true, nat_tests, ◌+◌, ◌-◌, ◌≢◌, nat_le, Geometry, is_valid, is_block_size, is_region, Limits}

block_size_bounds : (size : ℕ) → IsTrue (is_block_size size) → (64 ≤ size) × (size ≤ 4096)
block_size_bounds size h = (grind (arith, nat_tests), grind (arith, nat_tests))

-- the tests that a valid geometry passes, one by one
pub record PassesTests (g : Geometry) : Type 0 where
  pub block : IsTrue (is_block_size g.block)
  pub some_blocks : IsTrue (nat_le 1 g.blocks)
  pub most_blocks : IsTrue (nat_le g.blocks 16384)
  pub least_log : IsTrue (nat_le 64 g.log)
  pub largest_log : IsTrue (nat_le g.log 67108864)
  pub hash : IsTrue (is_region g 3 g.hash)
  pub tree : IsTrue (is_region g 2 g.tree)
  pub regions : IsTrue (nat_le (g.hash + g.tree) g.blocks)
  pub least_form : IsTrue (nat_le 1 g.form)
  pub largest_form : IsTrue (nat_le g.form 2)

pub tests_passed : (g : Geometry) → IsTrue (is_valid g) → PassesTests g
unfolding is_valid
tests_passed g valid =
    let largest_form = and_parts _ _ valid in
    let least_form = and_parts _ _ largest_form.0 in
    let regions = and_parts _ _ least_form.0 in
    let tree = and_parts _ _ regions.0 in
    let hash = and_parts _ _ tree.0 in
    let largest_log = and_parts _ _ hash.0 in
    let least_log = and_parts _ _ largest_log.0 in
    let most_blocks = and_parts _ _ least_log.0 in
    let blocks = and_parts _ _ most_blocks.0 in
    record {
      block = blocks.0;
      some_blocks = blocks.1;
      most_blocks = most_blocks.1;
      least_log = least_log.1;
      largest_log = largest_log.1;
      hash = hash.1;
      tree = tree.1;
      regions = regions.1;
      least_form = least_form.1;
      largest_form = largest_form.1;
    }

-- the blocks of a store's region that is there
pub record HasRegion (g : Geometry) (least blocks : ℕ) : Type 0 where
  pub enough : least ≤ blocks
  pub most : blocks ≤ 8 * (g.block - 64)
  pub block : 256 ≤ g.block

pub region_there : (g : Geometry) (least blocks : ℕ) → IsTrue (is_region g least blocks) → blocks ≢ 0 → HasRegion g least blocks
region_there g least blocks is some = search (arith)

-- the limits from the tests that a valid geometry passes
pub limits : (g : Geometry) → IsTrue (is_valid g) → Limits g
limits g valid =
    let passed = tests_passed g valid in
    let size = block_size_bounds g.block passed.block in
    let most : g.blocks ≤ 16384 = leb-true _ _ passed.most_blocks in
    let largest : g.log ≤ 67108864 = leb-true _ _ passed.largest_log in
    let base : g.blocks * g.block ≤ 67108864 = mul-le-mul most size.1 in
    record {
      least_block = size.0;
      largest_block = size.1;
      some_blocks = leb-true _ _ passed.some_blocks;
      most_blocks = most;
      least_log = leb-true _ _ passed.least_log;
      largest_log = largest;
      regions = leb-true _ _ passed.regions;
      least_form = leb-true _ _ passed.least_form;
      largest_form = leb-true _ _ passed.largest_form;
      base = base;
      half = omega arith;
      image = omega arith;
    }
