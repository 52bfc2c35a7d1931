-- The blocks of an image as a plain array, and what a write does to it.
use Rattle.std.specs.{Prelude.{ℕ, ◌+◌, Bool, true, ◌&&◌, cond, List, [], ◌∷◌, replicate, nat_le, nat_lt, slice_index, slice_index_or, slice_set}, List.list_any}
use Rattle.iso_model.specs.{declared.access.Span.Span, declared.access.Access.Access}

-- a list of blocks, each a list of bytes
abbrev pub Array : Type 0
Array = List (List ℕ)

-- `blocks` blocks of `size` bytes, all zero
abbrev pub zeros : (size blocks : ℕ) → Array
zeros size blocks = replicate blocks (replicate size 0)

-- the byte at place p of block b
abbrev pub byte_at : Array → (b p : ℕ) → ℕ
byte_at A b p = slice_index (slice_index_or A b []) p

-- whether the span has the byte at p
abbrev pub in_span : ℕ → Span → Bool
in_span p span = nat_le span.off p && nat_lt p (span.off + span.len)

-- whether the spans cover the byte at p: there is none, or one of them has it
abbrev pub covered : List Span → ℕ → Bool
covered [] p = true
covered (span ∷ spans) p = list_any (in_span p) (span ∷ spans)

-- the old bytes from place p on, with the new ones where the spans cover the place
abbrev pub merged : List Span → ℕ → List ℕ → List ℕ → List ℕ
merged spans p [] new = []
merged spans p (x ∷ old) [] = x ∷ old
merged spans p (x ∷ old) (y ∷ new) = cond (covered spans p) y x ∷ merged spans (p + 1) old new

-- the array in which each byte that the write covers has the write's value, and all else is kept
unfoldable pub put : Array → Access → Array
put A w = slice_set A w.block (merged w.spans 0 (slice_index_or A w.block []) w.bytes)
