-- The marks of a transaction's accesses.
use Rattle.std.specs.Prelude.{ℕ, ◌+◌, Bool, ◌||◌, ◌==◌, if◌then◌else◌, List, [], ◌∷◌, ◌++◌, Option, Some, None, length, nat_le, nat_lt}
use Rattle.iso_model.specs.{declared.access.Access.Access, declared.access.MarkError.MarkError, declared.access.MarkError.TheVariants.{BadRange, NoAccess, TooManyMarks}, declared.access.Span.Span, declared.limits.TheConstants.MAX_SPANS}

-- whether the `len` bytes from `off` on are none or pass the end of a block of this size
abbrev pub is_outside : (size off len : ℕ) → Bool
is_outside size off len = (len == 0) || nat_lt size (off + len)

-- the accesses with one more mark on the last of them; the first mark of an access is in the place of its whole block
abbrev pub marked : Span → List Access → List Access
marked span [] = []
marked span (a ∷ []) = record a { spans = a.spans ++ span ∷ [] } ∷ []
marked span (a ∷ b ∷ accesses) = a ∷ marked span (b ∷ accesses)

-- why the last of the accesses takes no further mark, if it takes none
abbrev pub marks_fault : List Access → Option MarkError
marks_fault [] = Some NoAccess
marks_fault (a ∷ []) = if nat_le MAX_SPANS (length a.spans) then Some TooManyMarks else None
marks_fault (a ∷ b ∷ accesses) = marks_fault (b ∷ accesses)

-- the first reason for which a mark of len bytes at off is refused
abbrev pub mark_fault : (size off len : ℕ) → List Access → Option MarkError
mark_fault size off len accesses = if is_outside size off len then Some BadRange else marks_fault accesses
