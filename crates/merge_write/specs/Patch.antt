-- What contracts see of a `Patch`: for each byte of a block the value that it is set to, if it is set.
use Rattle.std.specs.{Prelude.{ℕ, ◌+◌, ◌*◌, ◌/◌, ◌%◌, ◌==◌, ◌≡◌, cond, List, [], ◌∷◌, Option, Some, None, Bool, IsTrue, length, slice_index, unwrap_or}, Int.bit_at}
use Rattle.iso_model.specs.{declared.access.Span.Span, declared.access.Run.Run, Array.covered, Effect.or_else, Geometry.is_block_size}

-- whether the row of masks has the bit of the byte at p
abbrev pub is_set : List ℕ → ℕ → Bool
is_set masks p = bit_at (slice_index masks (p / 64)) (p % 64) == 1

-- the values of the bytes, the first of which is at p
abbrev pub values_from : List ℕ → ℕ → List ℕ → List (Option ℕ)
values_from masks p [] = []
values_from masks p (x ∷ bytes) = cond (is_set masks p) (Some x) None ∷ values_from masks (p + 1) bytes

-- a block of bytes, and a mask for every 64 of them
abbrev pub IsRow : List ℕ → List ℕ → Type 0
IsRow bytes masks = IsTrue (is_block_size (length bytes)) × (length bytes ≡ 64 * length masks)

-- the values from p on, with the write's bytes where its spans cover the place
abbrev pub written : List Span → ℕ → List (Option ℕ) → List ℕ → List (Option ℕ)
written spans p [] bytes = []
written spans p (v ∷ values) [] = v ∷ values
written spans p (v ∷ values) (x ∷ bytes) = cond (covered spans p) (Some x) v ∷ written spans (p + 1) values bytes

-- the block with each set byte replaced, and all else kept
abbrev pub laid : List (Option ℕ) → List ℕ → List ℕ
laid [] old = old
laid (v ∷ values) [] = []
laid (v ∷ values) (x ∷ old) = unwrap_or v x ∷ laid values old

-- the first values, followed by the later ones
abbrev pub followed : List (Option ℕ) → List (Option ℕ) → List (Option ℕ)
followed [] later = []
followed (v ∷ values) [] = v ∷ values
followed (v ∷ values) (w ∷ later) = or_else w v ∷ followed values later

-- a run of any block, as a span with its bytes
abbrev pub piece : Run → Span × List ℕ
piece run = (record { off = run.off; len = length run.bytes }, run.bytes)

-- a piece as a run of a block
abbrev pub run_of : (b : ℕ) → Span × List ℕ → Run
run_of b x = record { block = b; off = x.0.off; bytes = x.1 }
