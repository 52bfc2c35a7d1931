-- What each refusal of an image tells, also where the disk tells nothing.
use Rattle.std.specs.Prelude.{◌≡◌, ◌≢◌, ℕ, ◌≤◌}
use Rattle.iso_log.specs.Scan.{IsTestBefore}
use Rattle.iso_image.specs.{declared.open_error.OpenError.OpenError, declared.open_error.OpenError.TheVariants.{NotIsotope, BadGeometry, WrongSize, NoHalf, Damaged, UnknownForm, Disk, Memory}}

-- An image of this size may be refused so: for one of the seven fields of a superblock, for another size than this one, at a
-- place inside it for one of the eight tests, or for a form that is none of the two.
abbrev pub IsShaped : (size : ℕ) → OpenError → Type 0
IsShaped size NotIsotope = Unit {0}
IsShaped size (BadGeometry field) = (1 ≤ field) × (field ≤ 7)
IsShaped size (WrongSize want have) = (have ≡ size) × (want ≢ size)
IsShaped size NoHalf = Unit {0}
IsShaped size (Damaged at cause) = IsTestBefore size at cause
IsShaped size (UnknownForm form) = (form ≢ 1) × (form ≢ 2)
IsShaped size Disk = Unit {0}
IsShaped size Memory = Unit {0}
