-- The parts of a block's versions that show at the last number.
use Rattle.std.specs.{Prelude.{ℕ, ◌≡◌, ◌⊎◌, ◌+◌, ◌-◌, ◌^◌, ◌<◌, ◌≤◌, List, [], ◌∷◌, ◌++◌, Some, map, min, nat_lt}, List.{AllByRecursion, filter}}
use Rattle.mv_index.specs.{declared.version.Version.Version, Shown.{AllLie, newest_with, place_in}, Versions.Rise}

-- each piece has bytes, the first one none before the byte at x, and each later one none before the end of the one before it
abbrev pub Follow : ℕ → List Version → Type 0
Follow x [] = Unit {0}
Follow x (q ∷ pieces) = (x ≤ q.off) × (0 < q.len) × Follow (q.off + q.len) pieces

-- the part of a piece before the byte at x, and the part from it on
abbrev pub front_of : ℕ → Version → Version
front_of x q = record q { len = min q.len (x - q.off) }

abbrev pub back_of : ℕ → Version → Version
back_of x q = record q { place = q.place + (x - q.off); off = q.off + (x - q.off); len = q.len - (x - q.off) }

-- what the pieces have before the byte at x, and what they have from it on
abbrev pub fronts : ℕ → List Version → List Version
fronts x pieces = map (front_of x) (filter (λ q. nat_lt q.off x) pieces)

abbrev pub backs : ℕ → List Version → List Version
backs x pieces = map (back_of x) (filter (λ q. nat_lt x (q.off + q.len)) pieces)

-- the pieces with a later version over them
abbrev pub laid : Version → List Version → List Version
laid v pieces = fronts v.off pieces ++ v ∷ backs (v.off + v.len) pieces

-- the pieces, the last of which ends before the byte at x, and those whose first one begins there
abbrev pub ended : ℕ → List Version → List Version
ended x [] = []
ended x (q ∷ []) = front_of x q ∷ []
ended x (q ∷ r ∷ pieces) = q ∷ ended x (r ∷ pieces)

abbrev pub begun : ℕ → List Version → List Version
begun x [] = []
begun x (q ∷ pieces) = back_of x q ∷ pieces

-- a place where what shows may change: a version that shows its byte there begins at it, or one that shows the byte before ends at it
abbrev pub IsStart : List Version → ℕ → Type 0
IsStart versions s =
    (v : Version) × (((newest_with versions s ≡ Some v) × (v.off ≡ s)) ⊎ ((newest_with versions (s - 1) ≡ Some v) × (v.off + v.len ≡ s)))

-- The pieces stand in order, and have each byte where the last version with it has it.
pub record ArePieces (pieces versions : List Version) : Type 0 where
  pub order : Follow 0 pieces
  pub place : (p : ℕ) → place_in pieces p ≡ place_in versions p
  pub start : AllByRecursion (λ q. IsStart versions q.off) pieces

-- each has bytes of a block of at most 4,096, and they stand at places below 2 ^ 64
abbrev pub ArePlaced : List Version → Type 0
ArePlaced versions = AllLie 4096 (2 ^ 64 - 1) versions

-- the versions of a block and their pieces
pub record IsRow (versions pieces : List Version) : Type 0 where
  pub rise : Rise versions
  pub placed : ArePlaced versions
  pub pieces_of : ArePieces pieces versions
