-- Versions whose bytes stand elsewhere.
use Rattle.std.specs.{Prelude.{ℕ, ◌⊎◌, ◌+◌, ◌-◌, ◌^◌, ◌<◌, ◌≤◌, List, length, map, nat_lt, slice_index_or}, List.filter}
use Rattle.mv_index.specs.{declared.version.Version.Version, Versions.no_version}

-- the version, where what stood at the first place is at the second
abbrev pub moved : (from to : ℕ) → Version → Version
moved from to v = record v { place = to + (v.place - from) }

-- of the versions those whose bytes stand after the first place, moved to the second
abbrev pub moved_to : (from to : ℕ) → List Version → List Version
moved_to from to versions = map (moved from to) (filter (λ v. nat_lt from v.place) versions)

-- The byte at the place is in no version, and those before it are before the others in the list.
pub record AreSplit (place : ℕ) (versions : List Version) : Type 0 where
  pub apart : (i : ℕ) → i < length versions
      → ((slice_index_or versions i no_version).place + (slice_index_or versions i no_version).len ≤ place) ⊎ (place < (slice_index_or versions i no_version).place)
  pub order : (i j : ℕ) → i ≤ j → j < length versions → place < (slice_index_or versions i no_version).place → place < (slice_index_or versions j no_version).place

-- each still has a place below 2 ^ 64 that far behind `to`
abbrev pub AllFitAt : (to : ℕ) → List Version → Type 0
AllFitAt to versions = (i : ℕ) → i < length versions → to + (slice_index_or versions i no_version).place < 2 ^ 64
