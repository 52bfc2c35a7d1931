-- A store over the blocks of an array: its region, the map that it holds, and what its calls do to the map.
use Rattle.std.specs.{Prelude.{◌≡◌, ℕ, Bool, IsTrue, IsFalse, List}, List.AllByRecursion}
use Rattle.iso_model.specs.{declared.access.Access.Access, Array.Array, Effect.is_write, Premises.block_at}
use Rattle.store_model.specs.HashRegion.{Pairs}

-- The blocks of its region; when the region of an array is well formed, and which map it then holds; what a call answers on a
-- map, and the map after it.
pub record MapStore : Type 1 where
  pub Map : Type 0
  pub Call : Type 0
  pub Answer : Type 0
  pub has_block : ℕ → Bool
  pub IsWellFormed : Array → Type 0
  pub map_of : Array → Map
  pub act : Call → Map → Answer × Map

-- the store of a map from names to bytes
abbrev pub pairs_store : (Call Answer : Type 0) → (has_block : ℕ → Bool) → (IsWellFormed : Array → Type 0) → (map_of : Array → Pairs) → (act : Call → Pairs → Answer × Pairs) → MapStore
pairs_store Call Answer has_block IsWellFormed map_of act = record { Map = Pairs; Call = Call; Answer = Answer; has_block = has_block; IsWellFormed = IsWellFormed; map_of = map_of; act = act }

-- arrays with the same blocks in the region
abbrev pub SameRegion : MapStore → Array → Array → Type 0
SameRegion s A B = (b : ℕ) → IsTrue (s.has_block b) → block_at B b ≡ block_at A b

-- what a region is depends on its blocks alone
pub record IsOfItsBlocks (s : MapStore) : Type 0 where
  pub well_formed : (A B : Array) → SameRegion s A B → s.IsWellFormed A → s.IsWellFormed B
  pub map_is : (A B : Array) → SameRegion s A B → s.IsWellFormed A → s.map_of B ≡ s.map_of A

-- accesses that write no block of the region
abbrev pub SpareRegion : MapStore → List Access → Type 0
SpareRegion s accesses = AllByRecursion (λ a. IsTrue (is_write a) → IsFalse (s.has_block a.block)) accesses
