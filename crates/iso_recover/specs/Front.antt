-- What the front of an image says, as far as the log of its current half.
use Rattle.std.specs.Prelude.{◌≡◌, ℕ, zero, suc, ◌+◌, ◌≤◌, ◌==◌, if◌then◌else◌, List, Option, Some, None, Result, Ok, Err, IsTrue, take, drop}
use Rattle.iso_model.specs.{declared.access.Geometry.Geometry, declared.limits.TheConstants.LAST, Geometry.{header_place, image_size, is_valid, log_place}, Image.{chosen_half, current_half, half_header, superblock}}
use Rattle.iso_format.specs.{declared.superblock.SuperError.SuperError, Reading.half_of}
use Rattle.iso_format.specs.declared.superblock.SuperError.TheVariants as super
use Rattle.iso_image.specs.{Half.in_form, Refusal.{header_refusal, log_at, log_refusal, refusal}, declared.open_error.OpenError.OpenError, declared.open_error.OpenError.TheVariants.{NotIsotope, BadGeometry, WrongSize, NoHalf}}
use Rattle.iso_recover.specs.declared.front.Front.{Front}

-- the first test that an image of this size fails up to its halves, by what its superblock says
abbrev pub super_refusal : (size : ℕ) → Result Geometry SuperError → Option OpenError
super_refusal size (Err super.NotIsotope) = Some NotIsotope
super_refusal size (Err (super.BadGeometry field)) = Some (BadGeometry field)
super_refusal size (Ok g) = if size == image_size g then None else Some (WrongSize (image_size g) size)

-- the header of half 0 or 1
abbrev pub header_of : (half : ℕ) → (first second : List ℕ) → List ℕ
header_of zero first second = first
header_of (suc n) first second = second

-- the half that two headers choose
abbrev pub chosen_by : (first second : List ℕ) → Option ℕ
chosen_by first second = chosen_half ((half_of first).gate == 1) (half_of first).generation ((half_of second).gate == 1) (half_of second).generation

-- the first test that the header of this half fails
abbrev pub halves_refusal : Geometry → (first second : List ℕ) → Option ℕ → Option OpenError
halves_refusal g first second None = Some NoHalf
halves_refusal g first second (Some half) = header_refusal (header_place g half) (header_of half first second)

-- what the header of this half says
abbrev pub front_said : Geometry → (half : ℕ) → (header : List ℕ) → Front
front_said g half header = record {
  geometry = in_form (half_of header).form g;
  half = half;
  generation = (half_of header).generation;
  base = (half_of header).base;
  log = log_place g half;
}

-- The front says what the open header of this half does, which passes each test.
pub record IsSaid (g : Geometry) (half : ℕ) (header : List ℕ) (f : Front) : Type 0 where
  pub passes : header_refusal (header_place g half) header ≡ None
  pub front_is : f ≡ front_said g half header
  pub valid : IsTrue (is_valid (in_form (half_of header).form g))
  pub generation : (half_of header).generation ≤ LAST
  pub base : (half_of header).base ≤ LAST
  pub spelled : header ≡ half_header 1 (half_of header).form (half_of header).generation (half_of header).base

-- It says what the header of the half does that the two headers choose.
pub record IsFrontOf (g : Geometry) (first second : List ℕ) (f : Front) : Type 0 where
  pub half : f.half ≤ 1
  pub chosen : chosen_by first second ≡ Some f.half
  pub said : IsSaid g f.half (header_of f.half first second) f

-- The front of an image of this size.
pub record IsFront (f : Front) (size : ℕ) : Type 0 where
  pub valid : IsTrue (is_valid f.geometry)
  pub size_is : size ≡ image_size f.geometry
  pub half : f.half ≤ 1
  pub generation : f.generation ≤ LAST
  pub base : f.base ≤ LAST
  pub log : f.log ≡ log_place f.geometry f.half

-- The image has this front, and is refused for what its log is refused for.
pub record HasFront (f : Front) (bytes : List ℕ) : Type 0 where
  pub super : take 64 bytes ≡ superblock 1 f.geometry
  pub current : current_half f.geometry bytes ≡ Some f.half
  pub header : take 32 (drop (header_place f.geometry f.half) bytes) ≡ half_header 1 f.geometry.form f.generation f.base
  pub refusal_is : refusal bytes ≡ log_refusal f.geometry f.log (f.base + 1) f.geometry.log (log_at f.geometry f.half bytes)
