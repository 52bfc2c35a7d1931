-- What the bytes of a record say, and the first test that they fail.
use Rattle.std.specs.{Prelude.{◌≡◌, ℕ, zero, suc, ◌+◌, ◌*◌, ◌^◌, ◌<◌, ◌≤◌, Bool, true, ◌&&◌, ◌||◌, ◌==◌, not, if◌then◌else◌, List, [], ◌∷◌, ◌++◌, Option, Some, None, IsTrue, length, take, drop, nat_lt, nat_le, slice_index}, Int.{w16, w32, w64}}
use Rattle.iso_model.specs.{declared.access.Geometry.Geometry, declared.access.Run.Run, declared.limits.TheConstants.LAST, Effect.or_else, Image.{AreRuns, spell}}
use Rattle.iso_format.specs.{declared.format_error.FormatError.FormatError, declared.format_error.FormatError.TheVariants.{Short, Kind, NotZero, Count, Order, Range, Length, Number}, Reading.number_at}

-- a record without where it lies in memory
pub record Recorded : Type 0 where
  pub number : ℕ
  pub kind : ℕ
  pub parts : List Run

-- the run of the part at the front of the bytes
abbrev pub run_of : List ℕ → Run
run_of body = record { block = number_at w32 0 body; off = number_at w16 4 body; bytes = take (number_at w16 6 body) (drop 8 body) }

-- the limits that the fields of a part have
pub record IsSmall (run : Run) : Type 0 where
  pub block : run.block < 2 ^ 32
  pub off : run.off < 2 ^ 16
  pub len : length run.bytes < 2 ^ 16

-- how many bytes that part says that it has
abbrev pub part_size : List ℕ → ℕ
part_size body = 8 + number_at w16 6 body

-- n runs, one part after the other
abbrev pub runs_of : ℕ → List ℕ → List Run
runs_of zero body = []
runs_of (suc n) body = run_of body ∷ runs_of n (drop (part_size body) body)

-- the bytes hold n parts
abbrev pub HasParts : ℕ → List ℕ → Type 0
HasParts zero body = Unit {0}
HasParts (suc n) body = (part_size body ≤ length body) × HasParts n (drop (part_size body) body)

-- whether the part may follow one that ended in this block, before this byte of it
abbrev pub follows : Option (ℕ × ℕ) → List ℕ → Bool
follows None body = true
follows (Some before) body = nat_lt before.0 (number_at w32 0 body) || ((before.0 == number_at w32 0 body) && nat_lt before.1 (number_at w16 4 body))

-- whether the part lies in a block of the array
abbrev pub lies_in : Geometry → List ℕ → Bool
lies_in g body = nat_lt (number_at w32 0 body) g.blocks && nat_le 1 (number_at w16 6 body) && nat_le (number_at w16 4 body + number_at w16 6 body) g.block

-- the first test that the part fails, which is at this place of the record
abbrev pub part_fault : Geometry → (before : Option (ℕ × ℕ)) → (at : ℕ) → List ℕ → Option FormatError
part_fault g before at body =
    if nat_lt (length body) 8 then Some (Length at)
    else (if not (follows before body) then Some (Order at)
    else (if not (lies_in g body) then Some (Range at)
    else (if nat_lt (length body) (part_size body) then Some (Length at) else None)))

-- the block of the part, and the byte after its run
abbrev pub part_end : List ℕ → ℕ × ℕ
part_end body = (number_at w32 0 body, number_at w16 4 body + number_at w16 6 body)

-- the first test that n parts fail, which are to be all of the bytes
unfoldable pub parts_fault : Geometry → (before : Option (ℕ × ℕ)) → (at n : ℕ) → List ℕ → Option FormatError
parts_fault g before at zero [] = None
parts_fault g before at zero (b ∷ body) = Some (Length at)
parts_fault g before at (suc n) body =
    or_else (part_fault g before at body) (parts_fault g (Some (part_end body)) (at + part_size body) n (drop (part_size body) body))

abbrev pub is_kind : Geometry → ℕ → Bool
is_kind g kind = (kind == 1) || ((kind == 2) && (g.form == 2))

-- how many bytes have to be there for the record to be read: those that its head says, and the gate after it
abbrev pub record_window : List ℕ → ℕ
record_window bytes = 21 + number_at w32 8 bytes

-- the first test that fails before the parts
abbrev pub head_fault : Geometry → List ℕ → Option FormatError
head_fault g bytes =
    if nat_lt (length bytes) 20 then Some (Short 0)
    else (if nat_lt (length bytes) (record_window bytes) then Some (Short 8)
    else (if not (is_kind g (slice_index bytes 1)) then Some (Kind 1)
    else (if not (slice_index bytes 2 == 0) then Some (NotZero 2)
    else (if not (slice_index bytes 3 == 0) then Some (NotZero 3)
    else (if (number_at w32 4 bytes == 0) || nat_lt (number_at w32 8 bytes) (9 * number_at w32 4 bytes) then Some (Count 4) else None)))))

abbrev pub number_fault : (n : ℕ) → List ℕ → Option FormatError
number_fault n bytes = if (number_at w64 12 bytes == n) && nat_le n LAST then None else Some (Number 12)

abbrev pub body_of : List ℕ → List ℕ
body_of bytes = take (number_at w32 8 bytes) (drop 20 bytes)

-- the first test that the bytes fail as the record with the number n
unfoldable pub fault_of : Geometry → (n : ℕ) → List ℕ → Option FormatError
fault_of g n bytes =
    or_else (head_fault g bytes) (or_else (parts_fault g None 20 (number_at w32 4 bytes) (body_of bytes)) (number_fault n bytes))

-- what they say as a record, whether or not they fail one
abbrev pub recorded : List ℕ → Recorded
recorded bytes = record { number = number_at w64 12 bytes; kind = slice_index bytes 1; parts = runs_of (number_at w32 4 bytes) (body_of bytes) }

-- The bytes begin with the record with the number n, but for its gate, and one byte more follows it at least.
pub record BeginsWith (g : Geometry) (n : ℕ) (r : Recorded) (bytes : List ℕ) : Type 0 where
  pub number : r.number ≡ n
  pub last : n ≤ LAST
  pub kind : IsTrue (is_kind g r.kind)
  pub some : 0 < length r.parts
  pub runs : AreRuns g r.parts
  pub gate : ℕ
  pub next : ℕ
  pub rest : List ℕ
  pub spelling : bytes ≡ spell gate r.kind n r.parts ++ next ∷ rest
