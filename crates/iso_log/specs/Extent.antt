-- Where a log is in an image, and how far it goes.
use Rattle.std.specs.Prelude.{ℕ, ◌+◌, length}
use Rattle.iso_model.specs.{declared.access.Geometry.Geometry, Geometry.log_place}
use Rattle.iso_image.specs.Half.{Half, last_told, told_bytes}

-- its place, its bytes, how many of them its records take, and the number of its last record, or of its base
pub record Extent : Type 0 where
  pub place : ℕ
  pub room : ℕ
  pub used : ℕ
  pub last : ℕ

-- the place of the next record's gate
abbrev pub next_place : Extent → ℕ
next_place log = log.place + log.used

-- the log of a half of an image
abbrev pub extent_of : Geometry → Half → Extent
extent_of g x = record { place = log_place g x.at; room = g.log; used = length (told_bytes g x); last = last_told x }
