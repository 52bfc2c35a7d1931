-- Where accesses write.
use Rattle.std.specs.{Prelude.{ℕ, IsTrue, IsFalse, List}, List.AllByRecursion}
use Rattle.iso_model.specs.{declared.access.Access.Access, Effect.is_write}
use Rattle.store_laws.specs.Region.{MapStore}

-- accesses whose writes are all in the region
abbrev pub WriteWithin : MapStore → List Access → Type 0
WriteWithin s accesses = AllByRecursion (λ a. IsTrue (is_write a) → IsTrue (s.has_block a.block)) accesses

-- two stores that have no block in common
abbrev pub ShareNoBlock : (s t : MapStore) → Type 0
ShareNoBlock s t = (b : ℕ) → IsTrue (s.has_block b) → IsFalse (t.has_block b)
