-- What a log's bytes tell from the next gate on.
use Rattle.std.specs.Prelude.{◌≡◌, ℕ, ◌+◌, ◌-◌, ◌<◌, ◌≤◌, List, [], ◌∷◌, ◌++◌, Some, None, length, take, drop}
use Rattle.iso_model.specs.{declared.access.Geometry.Geometry, declared.limits.TheConstants.LAST, Image.{IsRecord, kind_of, spell}}
use Rattle.commit_gate.specs.Gate.{IsOpen}
use Rattle.iso_format.specs.{declared.format_error.FormatError.FormatError, Records.fault_of}
use Rattle.iso_image.specs.{declared.open_error.OpenError.TheVariants.Damaged, Refusal.{damaged, told_first}}
use Rattle.iso_log.specs.Extent.{Extent}

-- The bytes are the record with this number, and one gate after it.
pub record IsNextRecord (g : Geometry) (number : ℕ) (bytes : List ℕ) : Type 0 where
  pub is_record : IsRecord g (told_first g bytes)
  pub below : number ≤ LAST
  pub gate : ℕ
  pub bytes_are : bytes ≡ spell 1 (kind_of g (told_first g bytes).mode) number (told_first g bytes).parts ++ gate ∷ []

-- The first `size` of these bytes are the record with this number and one gate after it, and pass each test.
pub record IsFound (g : Geometry) (number : ℕ) (bytes : List ℕ) (size : ℕ) : Type 0 where
  pub within : size ≤ length bytes
  pub next : IsNextRecord g number (take size bytes)
  pub passes : fault_of g number (take size bytes) ≡ None

-- these bytes stand in the image from this place on
abbrev pub StandAt : (place : ℕ) → (bytes image : List ℕ) → Type 0
StandAt place bytes image = bytes ≡ take (length bytes) (drop place image)

-- The gate is open, and the `rest` bytes from it on begin with the record that has this number.
pub record IsFirst (g : Geometry) (place rest number : ℕ) (image : List ℕ) : Type 0 where
  pub opens : IsOpen place image
  pub passes : fault_of g number (take rest (drop place image)) ≡ None

-- The gate is open, and they do not: the first test that they fail is the one with this number, and is there.
pub record IsDamaged (g : Geometry) (place rest number : ℕ) (at cause : ℕ) (image : List ℕ) : Type 0 where
  pub opens : IsOpen place image
  pub fault : FormatError
  pub fails : fault_of g number (take rest (drop place image)) ≡ Some fault
  pub place_is : Damaged at cause ≡ damaged place fault

-- the place lies before this one, and the number is that of a test
pub record IsTestBefore (end at cause : ℕ) : Type 0 where
  pub inside : at < end
  pub first : 1 ≤ cause
  pub last : cause ≤ 8

-- The log has passed the next record, which these bytes are with the gate after it.
pub record IsTaken (g : Geometry) (old new : Extent) (bytes : List ℕ) : Type 0 where
  pub next : IsNextRecord g (old.last + 1) bytes
  pub grown : new ≡ record old { used = old.used + (length bytes - 1); last = old.last + 1 }
  pub inside : new.used < new.room
