-- The parts of a record, as an index takes them in.
use Rattle.std.specs.{Prelude.{ℕ, ◌≡◌, ◌+◌, ◌^◌, ◌<◌, ◌≤◌, ◌==◌, cond, List, [], ◌∷◌, ◌++◌, length, count_by, slice_index_or, sum_by}, List.AllByRecursion}
use Rattle.iso_model.specs.declared.access.Run.{Run}
use Rattle.mv_index.specs.{declared.version.Version.Version, Versions.{AreAtMost, BlockVersions, count_of, room_of, versions_in}}
use Rattle.version_read.specs.declared.part_span.PartSpan.{PartSpan}

-- a run without its bytes
abbrev pub part_of : Run → PartSpan
part_of run = record { block = run.block; off = run.off; len = length run.bytes }

-- the versions of block b in these parts of commit n, the first of which begins at this place
abbrev pub part_versions : (b n at : ℕ) → List PartSpan → List Version
part_versions b n at [] = []
part_versions b n at (part ∷ parts) =
    cond (part.block == b) (record { number = n; place = at + 8; off = part.off; len = part.len } ∷ part_versions b n (at + (8 + part.len)) parts) (part_versions b n (at + (8 + part.len)) parts)

-- how many bytes they take in a record
abbrev pub parts_length : List PartSpan → ℕ
parts_length parts = sum_by (λ part. 8 + part.len) parts

-- how many are of block b
abbrev pub parts_in : ℕ → List PartSpan → ℕ
parts_in b parts = count_by (λ part. part.block == b) parts

abbrev pub no_part : PartSpan
no_part = record { block = 0; off = 0; len = 0 }

-- the blocks do not fall
abbrev pub BlocksRise : List PartSpan → Type 0
BlocksRise parts = (i j : ℕ) → i ≤ j → j < length parts → (slice_index_or parts i no_part).block ≤ (slice_index_or parts j no_part).block

-- there is room for a version of each part
abbrev pub HasRoom : List PartSpan → List BlockVersions → Type 0
HasRoom parts index = (b : ℕ) → parts_in b parts ≤ room_of index b

-- a part of one of `blocks` blocks, of at most 4,096 bytes each
pub record IsPart (blocks : ℕ) (part : PartSpan) : Type 0 where
  pub block : part.block < blocks
  pub fits : part.off + part.len ≤ 4096

-- The parts may be those of the record with this number, whose gate is at this place: no version of the index has a
-- higher number.
pub record MayTake (number gate : ℕ) (parts : List PartSpan) (index : List BlockVersions) : Type 0 where
  pub parts_fit : AllByRecursion (IsPart (length index)) parts
  pub rising : (b : ℕ) → AreAtMost number (versions_in index b)
  pub place : gate + 20 + parts_length parts < 2 ^ 64
  pub count : count_of index + length parts < 2 ^ 64

-- The versions of these parts, of the record with this number whose gate is at this place, are after those that
-- were there.
pub record HasTaken (number gate : ℕ) (parts : List PartSpan) (old new : List BlockVersions) : Type 0 where
  pub blocks : length new ≡ length old
  pub each : (b : ℕ) → versions_in new b ≡ versions_in old b ++ part_versions b number (gate + 20) parts
  pub count : count_of new ≡ count_of old + length parts
  pub room : (b : ℕ) → room_of old b ≤ room_of new b + parts_in b parts
