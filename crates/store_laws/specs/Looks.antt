-- Transactions that call a store, and look into another one. The law looks_into_the_tree_beside_files_answer takes files, and the tree
-- store of their names.
use Rattle.std.specs.Prelude.{◌≡◌, ℕ, ◌-◌, [], ◌∷◌}
use Rattle.iso_model.specs.{declared.access.Commit.Commit, declared.access.Mode.TheVariants.Serial, Array.Array, Effect.own, History.{History, array_at}}
use Rattle.store_model.specs.Stores.{AreReads, IsLocal}
use Rattle.store_laws.specs.{Both.{First, MixedParts, Neither, Second, firsts}, Parts.{AnswerInOrder, accesses_in}, Region.{MapStore, SpareRegion}}

-- The parts of a transaction that is shown this array: each call of the store is local for it; each look into the other one is local for
-- that one and reads alone; all other accesses write no block of the store.
abbrev pub AreLooking : (s t : MapStore) → Array → MixedParts s t → Type 0
AreLooking s t A [] = Unit {0}
AreLooking s t A (First call accesses answer ∷ parts) = IsLocal s.IsWellFormed s.map_of (s.act call) A accesses answer × AreLooking s t (own A accesses) parts
AreLooking s t A (Second look accesses answer ∷ parts) = IsLocal t.IsWellFormed t.map_of (t.act look) A accesses answer × AreReads accesses × AreLooking s t (own A accesses) parts
AreLooking s t A (Neither accesses ∷ parts) = SpareRegion s accesses × AreLooking s t (own A accesses) parts

-- each look answered by the map of the array that it came to, which began as this one and took what the transaction wrote before
abbrev pub LooksAnswer : (s t : MapStore) → Array → MixedParts s t → Type 0
LooksAnswer s t B [] = Unit {0}
LooksAnswer s t B (First call accesses answer ∷ parts) = LooksAnswer s t (own B accesses) parts
LooksAnswer s t B (Second look accesses answer ∷ parts) = ((t.act look (t.map_of B)).0 ≡ answer) × LooksAnswer s t (own B accesses) parts
LooksAnswer s t B (Neither accesses ∷ parts) = LooksAnswer s t (own B accesses) parts

-- the looks of each transaction that is shown this array answer so
abbrev pub LooksShown : (s t : MapStore) → Array → Type 0
LooksShown s t A = (parts : MixedParts s t) → AreLooking s t A parts → LooksAnswer s t A parts

-- a serial commit that calls the store and looks into the other one
pub record IsOfLooks (s t : MapStore) (H : History) (c : Commit) : Type 0 where
  pub parts : MixedParts s t
  pub are : accesses_in (firsts parts) ≡ c.accesses
  pub serial : c.mode ≡ Serial
  pub made : AreLooking s t (array_at H c.begin) parts

-- The calls answer in order from the store's map of A to that of B, and the looks as from A on.
pub record LooksInOrder (s t : MapStore) (parts : MixedParts s t) (A B : Array) : Type 0 where
  pub calls : AnswerInOrder s (firsts parts) A B
  pub looks : LooksAnswer s t A parts

-- so does commit k, from directly before it to directly after it
abbrev pub LooksAnswerAt : (s t : MapStore) → History → (k : ℕ) → Commit → Type 0
LooksAnswerAt s t H k c = (of : IsOfLooks s t H c) → LooksInOrder s t of.parts (array_at H (k - 1)) (array_at H k)
