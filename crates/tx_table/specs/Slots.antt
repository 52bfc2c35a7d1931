-- Items that stay in their slots, under an order of keys.
use Rattle.std.specs.{Prelude.{◌≢◌, ℕ, ◌<◌, List, [], ◌∷◌, map, slice_index_or}, List.AllByRecursion}

-- for each key of the order the item in its slot
abbrev pub entries_of : {A : Type 0} → A → List A → List (ℕ × ℕ) → List (ℕ × A)
entries_of default items order = map (λ e. (e.0, slice_index_or items e.1 default)) order

-- the slots of the order are below n, and no two are the same
abbrev pub AreSlots : ℕ → List (ℕ × ℕ) → Type 0
AreSlots n [] = Unit {0}
AreSlots n (e ∷ order) = (e.1 < n) × AllByRecursion (λ f. f.1 ≢ e.1) order × AreSlots n order
