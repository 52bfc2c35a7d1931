-- What an image is refused for, and what it opens to: both computed over its bytes.
use Rattle.std.specs.Prelude.{ℕ, zero, suc, ◌+◌, ◌-◌, ◌||◌, ◌==◌, if◌then◌else◌, List, [], ◌∷◌, Option, Some, None, Result, Ok, Err, length, take, drop, nat_lt, slice_index, option_map}
use Rattle.iso_model.specs.{declared.access.Geometry.Geometry, declared.access.Mode.Mode, declared.access.Mode.TheVariants.{Serial, Snapshot}, declared.limits.TheConstants.LAST, Array.Array, Effect.or_else, Geometry.{image_size, header_place, base_place, log_place}, History.{History, last, array_at}, Image.{Written, blocks_of, commits_of, current_half}}
use Rattle.iso_format.specs.{declared.format_error.FormatError.FormatError, declared.half.HalfHeader.HalfHeader, declared.superblock.SuperError.SuperError, Faults.{offset_of, test_number}, Reading.{half_of, super_of, unclean_place}, Records.{fault_of, record_window, recorded}}
use Rattle.iso_format.specs.declared.superblock.SuperError.TheVariants as super
use Rattle.iso_image.specs.{declared.open_error.OpenError.OpenError, declared.open_error.OpenError.TheVariants.{NotIsotope, BadGeometry, WrongSize, NoHalf, Damaged, UnknownForm}}

-- the bytes of the header of half 0 or 1
abbrev pub header_at : Geometry → (half : ℕ) → List ℕ → List ℕ
header_at g half bytes = take 32 (drop (header_place g half) bytes)

-- the bytes of its log
abbrev pub log_at : Geometry → (half : ℕ) → List ℕ → List ℕ
log_at g half bytes = take g.log (drop (log_place g half) bytes)

-- the geometry with the form of that half
abbrev pub with_form : Geometry → (half : ℕ) → List ℕ → Geometry
with_form g half bytes = record g { form = (half_of (header_at g half bytes)).form }

-- the number of the first commit of that half's log
abbrev pub first_number : Geometry → (half : ℕ) → List ℕ → ℕ
first_number g half bytes = (half_of (header_at g half bytes)).base + 1

-- how many bytes the record has that begins these, by its head
abbrev pub record_bytes : List ℕ → ℕ
record_bytes log = record_window log - 1

-- a test of a record that is at this place of the image has failed
abbrev pub damaged : (place : ℕ) → FormatError → OpenError
damaged place fault = Damaged (place + offset_of fault) (test_number fault)

-- The first test that a record of the log fails, up to the first closed gate. The log is at this place of the image,
-- n is the number of its first record, and at most `most` are tested: with the log's length or more, all of them.
abbrev pub log_refusal : Geometry → (place n most : ℕ) → List ℕ → Option OpenError
log_refusal g place n zero log = None
log_refusal g place n (suc most) log =
    if slice_index log 0 == 1
    then or_else (option_map (damaged place) (fault_of g n log)) (log_refusal g (place + record_bytes log) (n + 1) most (drop (record_bytes log) log))
    else None

-- the first number of a header that is above the last one
abbrev pub number_refusal : (place : ℕ) → HalfHeader → Option OpenError
number_refusal place h =
    if nat_lt LAST h.generation then Some (Damaged (place + 8) 8)
    else if nat_lt LAST h.base then Some (Damaged (place + 16) 8)
    else None

-- the first test that the header of a half fails, which is at this place of the image
abbrev pub header_refusal : (place : ℕ) → List ℕ → Option OpenError
header_refusal place header =
    if ((half_of header).form == 1) || ((half_of header).form == 2)
    then or_else (option_map (λ i. Damaged (place + i) 3) (unclean_place header)) (number_refusal place (half_of header))
    else Some (UnknownForm (half_of header).form)

-- the first test that the current half fails
abbrev pub half_refusal : Geometry → List ℕ → Option ℕ → Option OpenError
half_refusal g bytes None = Some NoHalf
half_refusal g bytes (Some half) =
    or_else (header_refusal (header_place g half) (header_at g half bytes))
    (log_refusal (with_form g half bytes) (log_place g half) (first_number g half bytes) g.log (log_at g half bytes))

-- the first test that fails of 64 bytes or more, by what their superblock says
abbrev pub body_refusal : List ℕ → Result Geometry SuperError → Option OpenError
body_refusal bytes (Err super.NotIsotope) = Some NotIsotope
body_refusal bytes (Err (super.BadGeometry field)) = Some (BadGeometry field)
body_refusal bytes (Ok g) =
    if length bytes == image_size g then half_refusal g bytes (current_half g bytes)
    else Some (WrongSize (image_size g) (length bytes))

-- the first test that the bytes fail as an image, if they fail one
unfoldable pub refusal : List ℕ → Option OpenError
refusal bytes = if nat_lt (length bytes) 64 then Some NotIsotope else body_refusal bytes (super_of (take 64 bytes))

-- ---- what an image that is not refused opens to

-- the mode of a record of this kind
abbrev pub mode_of_kind : Mode → (kind : ℕ) → Mode
mode_of_kind Serial kind = if kind == 1 then Serial else Snapshot
mode_of_kind Snapshot kind = if kind == 1 then Snapshot else Serial

-- what the record at the front of the log tells
abbrev pub told_first : Geometry → List ℕ → Written
told_first g log = record { mode = mode_of_kind g.mode (recorded log).kind; parts = (recorded log).parts }

-- what the records of the log say, up to the first closed gate, at most `most` of them
abbrev pub told_by : Geometry → (most : ℕ) → List ℕ → List Written
told_by g zero log = []
told_by g (suc most) log = if slice_index log 0 == 1 then told_first g log ∷ told_by g most (drop (record_bytes log) log) else []

-- an image as it is opened: its geometry, its generation and its history
pub record Opened : Type 0 where
  pub geometry : Geometry
  pub generation : ℕ
  pub history : History

abbrev pub opened_half : Geometry → (half : ℕ) → List ℕ → Opened
opened_half g half bytes = record {
  geometry = with_form g half bytes;
  generation = (half_of (header_at g half bytes)).generation;
  history = record {
    first = first_number g half bytes;
    base = blocks_of g.block g.blocks (drop (base_place g half) bytes);
    commits = commits_of (with_form g half bytes) (first_number g half bytes) (told_by (with_form g half bytes) g.log (log_at g half bytes));
  };
}

abbrev pub opened_super : List ℕ → Result Geometry SuperError → Option Opened
opened_super bytes (Err fault) = None
opened_super bytes (Ok g) = option_map (λ half. opened_half g half bytes) (current_half g bytes)

abbrev pub unless_refused : Option OpenError → Option Opened → Option Opened
unless_refused None found = found
unless_refused (Some fault) found = None

-- what the bytes open to as an image, and nothing where they are refused
unfoldable pub opened : List ℕ → Option Opened
opened bytes = unless_refused (refusal bytes) (opened_super bytes (super_of (take 64 bytes)))

-- the array after the last commit that the image holds
abbrev pub recovered : Opened → Array
recovered image = array_at image.history (last image.history)
