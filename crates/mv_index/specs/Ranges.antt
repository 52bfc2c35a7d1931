-- Places in the list of a block's pieces, and its memory.
use Rattle.std.specs.Prelude.{ℕ, ◌≡◌, ◌+◌, ◌-◌, ◌*◌, ◌^◌, ◌<◌, ◌≤◌, List, count_by, length, slice_index_or}
use Rattle.mv_index.specs.{declared.version.Version.Version, Pieces.Follow, Shown.{AllLie, ShowTheSame}, Versions.{has, no_version}}

-- so many pieces begin before the byte at x, and they are the first ones
pub record HasBefore (pieces : List Version) (x n : ℕ) : Type 0 where
  pub within : n ≤ length pieces
  pub below : (k : ℕ) → k < n → (slice_index_or pieces k no_version).off < x
  pub above : (k : ℕ) → n ≤ k → k < length pieces → x ≤ (slice_index_or pieces k no_version).off

-- so many pieces have no byte from the one at x on, and they are the first ones
pub record HasEnded (pieces : List Version) (x n : ℕ) : Type 0 where
  pub within : n ≤ length pieces
  pub below : (k : ℕ) → k < n → (slice_index_or pieces k no_version).off + (slice_index_or pieces k no_version).len ≤ x
  pub above : (k : ℕ) → n ≤ k → k < length pieces → x < (slice_index_or pieces k no_version).off + (slice_index_or pieces k no_version).len

-- each piece begins before the byte at x
abbrev pub AllBegin : (x : ℕ) → List Version → Type 0
AllBegin x pieces = (k : ℕ) → k < length pieces → (slice_index_or pieces k no_version).off < x

-- each piece ends behind the byte at x
abbrev pub AllEnd : (x : ℕ) → List Version → Type 0
AllEnd x pieces = (k : ℕ) → k < length pieces → x < (slice_index_or pieces k no_version).off + (slice_index_or pieces k no_version).len

-- two places in a list of n, of which the first one is at most one behind the other
pub record AreCuts (n a b : ℕ) : Type 0 where
  pub first : a ≤ n
  pub last : b ≤ n
  pub around : b < a → b + 1 ≡ a

-- a range of a list of n
pub record IsRange (n a b : ℕ) : Type 0 where
  pub order : a ≤ b
  pub within : b ≤ n

-- a vector is in the memory that it had, and has at most this many items
pub record StaysIn (memory most memory_now len : ℕ) : Type 0 where
  pub few : len ≤ most
  pub capacity : memory_now ≡ memory

-- what a search by halves among n takes
pub record TakesHalves (n before after : ℕ) : Type 0 where
  pub steps : before ≤ after
  pub cost : 2 ^ (after - before) ≤ 2 * n + 1

-- versions were dropped, and there is no less room for others
pub record DropsSome (n dropped left before now : ℕ) : Type 0 where
  pub count : dropped + left ≡ n
  pub room : before ≤ now

-- the pieces of a block's versions that show at the last number, in the order of their bytes
pub record AreShowing (pieces versions : List Version) : Type 0 where
  pub order : Follow 0 pieces
  pub same : ShowTheSame pieces versions
  pub once : (p : ℕ) → count_by (has p) pieces ≤ 1
  pub some : (i : ℕ) → i < length pieces → 0 < (slice_index_or pieces i no_version).len
  pub few : length pieces ≤ 2 * length versions
  pub within : (block size : ℕ) → AllLie block size versions → AllLie block size pieces
