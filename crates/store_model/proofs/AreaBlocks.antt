-- The blocks of an area, on two arrays that have the same there.
use Rattle.store_model.proofs.Words.{◌≡◌, subst, ℕ, ◌+◌, ◌<◌, true, arith, nat_tests, Area, Array, block_at, in_area}

-- the blocks of an area are in it
pub in_its_area : (a : Area) (k : ℕ) → k < a.blocks → in_area a (a.start + k) ≡ true
in_its_area a k below = grind (arith, nat_tests)

pub start_in : (a : Area) → 0 < a.blocks → in_area a a.start ≡ true
start_in a some = let e : a.start + 0 ≡ a.start = omega arith in subst (λ (b : ℕ). in_area a b ≡ true) e (in_its_area a 0 some)

module _ (a : Area) (A B : Array) (same : (b : ℕ) → in_area a b ≡ true → block_at B b ≡ block_at A b) where
  pub same_block : (k : ℕ) → k < a.blocks → block_at B (a.start + k) ≡ block_at A (a.start + k)
  same_block k below = same (a.start + k) (in_its_area a k below)

  pub same_first : 0 < a.blocks → block_at B a.start ≡ block_at A a.start
  same_first some = same a.start (start_in a some)
