-- What a log holds in the images of a disk, and what an append makes of them.
use Rattle.std.specs.{Prelude.{◌≡◌, ℕ, ◌+◌, ◌<◌, ◌≤◌, List, [], ◌∷◌, ◌++◌, length}, List.AllByRecursion}
use Rattle.iso_model.specs.{declared.access.Geometry.Geometry, declared.limits.TheConstants.LAST, Image.{IsRecord, Written, records}}
use Rattle.iso_disk.specs.Disk.{spliced}
use Rattle.iso_image.specs.{Changes.Appending, Half.HasLog}
use Rattle.iso_log.specs.Extent.{Extent}

-- The bytes are these records, numbered on from the last one of the log, and a closed gate after them.
pub record IsNext (log : Extent) (g : Geometry) (more : List Written) (bytes : List ℕ) : Type 0 where
  pub some : 0 < length more
  pub each : AllByRecursion (IsRecord g) more
  pub numbers : log.last + length more ≤ LAST
  pub bytes_are : bytes ≡ records g (log.last + 1) more ++ 0 ∷ []

-- In each of these images the log has just these records, the first of them with the number first, and then a closed gate.
pub record HasTold (log : Extent) (g : Geometry) (first : ℕ) (told : List Written) (images : List ℕ → Type 0) : Type 0 where
  pub used : log.used ≡ length (records g first told)
  pub last : log.last + 1 ≡ first + length told
  pub each : (c : List ℕ) → images c → HasLog log.place log.room g first told c

-- one of these images, with these bytes from the gate on: the gate is closed, or all of them stand
pub record AppendingFrom (gate : ℕ) (bytes : List ℕ) (images : List ℕ → Type 0) (new : List ℕ) : Type 0 where
  pub old : List ℕ
  pub was : images old
  pub appending : Appending gate bytes old new

-- one of these images, with all of these bytes from the gate on
pub record AppendedTo (gate : ℕ) (bytes : List ℕ) (images : List ℕ → Type 0) (new : List ℕ) : Type 0 where
  pub old : List ℕ
  pub was : images old
  pub whole : new ≡ spliced old gate bytes
