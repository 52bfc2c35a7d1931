-- What contracts see of `Patches`: for each written block, rising, the values of its patch.
use Rattle.std.specs.{Prelude.{◌≡◌, ℕ, ◌+◌, ◌<◌, ◌≤◌, ◌==◌, ◌||◌, ◌⊎◌, Bool, true, false, cond, List, [], ◌∷◌, Option, None, length, replicate, slice_index_or, IsTrue}, List.AllByRecursion}
use Rattle.iso_model.specs.{declared.access.Access.Access, Effect.{effects_from, is_write}}

pub record Held : Type 0 where
  pub size : ℕ
  pub entries : List (ℕ × List (Option ℕ))
  -- whether a patch of one more block takes no memory
  pub spare : Bool

-- the blocks rise, from `from` on
abbrev pub RisesFrom : {A : Type 0} → ℕ → List (ℕ × A) → Type 0
RisesFrom from [] = Unit {0}
RisesFrom from (entry ∷ entries) = (from ≤ entry.0) × RisesFrom (entry.0 + 1) entries

-- whether there is a patch of the block
abbrev pub has_patch : ℕ → List (ℕ × List (Option ℕ)) → Bool
has_patch b [] = false
has_patch b (entry ∷ entries) = (entry.0 == b) || has_patch b entries

-- what is held for a block: the values of its patch, and no value where it has none
abbrev pub patch_at : (size b : ℕ) → List (ℕ × List (Option ℕ)) → List (Option ℕ)
patch_at size b [] = replicate size None
patch_at size b (entry ∷ entries) = cond (entry.0 == b) entry.1 (patch_at size b entries)

-- no value is set in the slots from `from` on
abbrev pub AreBlankFrom : (size from : ℕ) → List (List (Option ℕ)) → Type 0
AreBlankFrom size from slots = (k : ℕ) → from ≤ k → k < length slots → slice_index_or slots k [] ≡ replicate size None

-- whether a patch of the block takes no memory: there is one, or room for it
abbrev pub HasRoom : ℕ → Held → Type 0
HasRoom block held = (has_patch block held.entries ≡ true) ⊎ (held.spare ≡ true)

-- another state of patches of the same blocks, with the same room
pub record HasTheSame (old new : Held) : Type 0 where
  pub size : new.size ≡ old.size
  pub spare : new.spare ≡ old.spare
  pub kept : (b : ℕ) → has_patch b new.entries ≡ has_patch b old.entries

-- there is a patch of the block now, and all is held that was
pub record HasOneMore (block : ℕ) (old new : Held) : Type 0 where
  pub size : new.size ≡ old.size
  pub held : has_patch block new.entries ≡ true
  pub kept : (b : ℕ) → has_patch b old.entries ≡ true → has_patch b new.entries ≡ true
  pub values : (b : ℕ) → patch_at old.size b new.entries ≡ patch_at old.size b old.entries

-- the patches hold what the accesses write
pub record AreEffects (size : ℕ) (accesses : List Access) (patches : List (ℕ × List (Option ℕ))) : Type 0 where
  pub each : (b : ℕ) → patch_at size b patches ≡ effects_from accesses b 0 size

-- each block that is written has a patch
abbrev pub HavePatches : List Access → List (ℕ × List (Option ℕ)) → Type 0
HavePatches accesses patches = AllByRecursion (λ a. IsTrue (is_write a) → IsTrue (has_patch a.block patches)) accesses
