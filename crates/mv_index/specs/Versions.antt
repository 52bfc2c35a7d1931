-- The versions of blocks: those up to a number, those that still show a byte, and how many there are.
use Rattle.std.specs.{Prelude.{◌≡◌, ◌≢◌, ℕ, ◌+◌, ◌<◌, ◌≤◌, Bool, ◌&&◌, ◌||◌, not, cond, List, [], ◌∷◌, ◌++◌, length, nat_le, nat_lt, slice_index_or, sum_by}, List.{filter, list_any, range_with_len}}
use Rattle.mv_index.specs.declared.version.Version.{Version}

-- the versions of one block, and for how many more there is room
pub record BlockVersions : Type 0 where
  pub versions : List Version
  pub room : ℕ

abbrev pub no_version : Version
no_version = record { number = 0; place = 0; off = 0; len = 0 }

abbrev pub number_at : List Version → ℕ → ℕ
number_at versions i = (slice_index_or versions i no_version).number

-- the numbers do not fall
abbrev pub Rise : List Version → Type 0
Rise versions = (i j : ℕ) → i ≤ j → j < length versions → number_at versions i ≤ number_at versions j

-- each number is at or below this one
abbrev pub AreAtMost : ℕ → List Version → Type 0
AreAtMost n versions = (i : ℕ) → i < length versions → number_at versions i ≤ n

-- each has bytes of a block of at most this size
abbrev pub AreWithin : ℕ → List Version → Type 0
AreWithin size versions = (i : ℕ) → i < length versions → (slice_index_or versions i no_version).off + (slice_index_or versions i no_version).len ≤ size

-- those with a number at or below n
abbrev pub upto : ℕ → List Version → List Version
upto n versions = filter (λ v. nat_le v.number n) versions

-- whether the byte at p is one of `len` bytes from `off` on
abbrev pub in_bytes : (off len p : ℕ) → Bool
in_bytes off len p = nat_le off p && nat_lt p (off + len)

-- whether the version has the byte at p of its block
abbrev pub has : ℕ → Version → Bool
has p v = in_bytes v.off v.len p

-- whether some of the versions at or below t has the byte
abbrev pub hides : (t p : ℕ) → List Version → Bool
hides t p versions = list_any (λ v. nat_le v.number t && has p v) versions

-- whether the version is above t, or has a byte that none of the later ones at or below t has
abbrev pub still_shows : (t : ℕ) → Version → (later : List Version) → Bool
still_shows t v later = nat_lt t v.number || list_any (λ p. not (hides t p later)) (range_with_len v.off v.len)

-- the version is not above t, and a later one that is not has each of its bytes
pub record IsHidden (t : ℕ) (v : Version) (later : List Version) : Type 0 where
  pub upto : v.number ≤ t
  pub covered : (p : ℕ) → v.off ≤ p → p < v.off + v.len
      → (i : ℕ) × (i < length later) × ((slice_index_or later i no_version).number ≤ t) × ((slice_index_or later i no_version).off ≤ p)
      × (p < (slice_index_or later i no_version).off + (slice_index_or later i no_version).len)

-- those above t, and those at or below it that still show a byte
abbrev pub shown_since : (t : ℕ) → List Version → List Version
shown_since t [] = []
shown_since t (v ∷ versions) = cond (still_shows t v versions) (v ∷ shown_since t versions) (shown_since t versions)

abbrev pub no_versions : BlockVersions
no_versions = record { versions = []; room = 0 }

abbrev pub block_of : List BlockVersions → ℕ → BlockVersions
block_of index b = slice_index_or index b no_versions

-- the versions of block b
abbrev pub versions_in : List BlockVersions → ℕ → List Version
versions_in index b = (block_of index b).versions

abbrev pub room_of : List BlockVersions → ℕ → ℕ
room_of index b = (block_of index b).room

-- how many versions all blocks have
abbrev pub count_of : List BlockVersions → ℕ
count_of index = sum_by (λ row. length row.versions) index

-- block b has the version after its others, and room for at most one less; all other blocks are as before
pub record IsAdded (b : ℕ) (version : Version) (old new : List BlockVersions) : Type 0 where
  pub blocks : length new ≡ length old
  pub there : versions_in new b ≡ versions_in old b ++ version ∷ []
  pub room : room_of old b ≤ room_of new b + 1
  pub others : (c : ℕ) → c ≢ b → block_of new c ≡ block_of old c
  pub count : count_of new ≡ count_of old + 1
