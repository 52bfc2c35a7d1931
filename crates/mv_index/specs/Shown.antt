-- What the versions of a block show of their bytes in an image.
use Rattle.std.specs.Prelude.{ℕ, ◌≡◌, ◌+◌, ◌-◌, ◌<◌, ◌≤◌, cond, List, [], ◌∷◌, Option, Some, None, length, slice_index, slice_index_or}
use Rattle.iso_model.specs.Effect.{or_else}
use Rattle.mv_index.specs.{declared.version.Version.Version, Versions.{has, no_version}}

-- the byte of the image that the version has for the byte at p of its block
abbrev pub byte_of : List ℕ → Version → ℕ → Option ℕ
byte_of image v p = cond (has p v) (Some (slice_index image (v.place + (p - v.off)))) None

-- the byte that the last of the versions with the byte at p has for it
abbrev pub byte_in : List ℕ → List Version → ℕ → Option ℕ
byte_in image [] p = None
byte_in image (v ∷ versions) p = or_else (byte_in image versions p) (byte_of image v p)

-- in every image the two lists show the same bytes
abbrev pub ShowTheSame : List Version → List Version → Type 0
ShowTheSame xs ys = (image : List ℕ) (p : ℕ) → byte_in image xs p ≡ byte_in image ys p

-- so of the bytes from one of the block up to another
abbrev pub ShowTheSameIn : (from to : ℕ) → List Version → List Version → Type 0
ShowTheSameIn from to xs ys = (image : List ℕ) (p : ℕ) → from ≤ p → p < to → byte_in image xs p ≡ byte_in image ys p

-- each has a byte from one of the block up to another
abbrev pub AllMeet : (from to : ℕ) → List Version → Type 0
AllMeet from to versions =
    (i : ℕ) → i < length versions → ((slice_index_or versions i no_version).off < to) × (from < (slice_index_or versions i no_version).off + (slice_index_or versions i no_version).len)

-- the last of the versions that has the byte at p
abbrev pub newest_with : List Version → ℕ → Option Version
newest_with [] p = None
newest_with (v ∷ versions) p = or_else (newest_with versions p) (cond (has p v) (Some v) None)

-- where in an image the version has the byte at p
abbrev pub place_of : ℕ → Version → Option ℕ
place_of p v = cond (has p v) (Some (v.place + (p - v.off))) None

-- where in an image the byte at p is, as the last of the versions that has it says
abbrev pub place_in : List Version → ℕ → Option ℕ
place_in [] p = None
place_in (v ∷ versions) p = or_else (place_in versions p) (place_of p v)

-- the version has bytes of a block of `block` bytes, and they lie in an image of `size` bytes
pub record Lies (block size : ℕ) (v : Version) : Type 0 where
  pub fits : v.off + v.len ≤ block
  pub inside : v.place + v.len ≤ size

abbrev pub AllLie : (block size : ℕ) → List Version → Type 0
AllLie block size versions = (i : ℕ) → i < length versions → Lies block size (slice_index_or versions i no_version)
