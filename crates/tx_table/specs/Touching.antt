-- What is said of the bytes that rows cover, and of a set that they are added to.
use Rattle.std.specs.{Prelude.{◌≡◌, ℕ, ◌&&◌, ◌||◌, nat_lt, List, slice_index_or, take}, List.list_any}
use Rattle.byte_marks.specs.{declared.extent.Extent.Extent, Marks.has, Touched.{touches, AreTouched}}
use Rattle.iso_model.specs.{declared.access.Access.Access, declared.access.Kind.Kind, Array.covered, Effect.covers}
use Rattle.tx_table.specs.{declared.rows.Row.Row, Work.access_of}

-- the marks are on the bytes of its block that the row covers
abbrev pub AreCovered : (size : ℕ) → Row → List Extent → Type 0
AreCovered size row marks = (p : ℕ) → has marks p ≡ (nat_lt p size && covered (take row.count row.spans) p)

-- the bytes that the row covers have come to those that rows of this kind touch
abbrev pub IsTouched : (size : ℕ) → Kind → Row → (old new : List (ℕ × List Extent)) → Type 0
IsTouched size kind row old new = (b p : ℕ) → touches new b p ≡ (touches old b p || (nat_lt p size && covers kind b p (access_of row)))

-- the bytes that the rows at the places of the order cover have come to them
abbrev pub ArePlacesTouched : (size : ℕ) → Kind → List Row → List (ℕ × ℕ) → (old new : List (ℕ × List Extent)) → Type 0
ArePlacesTouched size kind rows order old new = (d : Row) → (b p : ℕ) → touches new b p ≡ (touches old b p || (nat_lt p size && list_any (λ e. covers kind b p (access_of (slice_index_or rows e.1 d))) order))

-- where the first `from` accesses were in what is touched, the first `upto` are now
abbrev pub IsFolded : (size blocks : ℕ) → Kind → List Access → (from upto : ℕ) → (old new : List (ℕ × List Extent)) → Type 0
IsFolded size blocks kind accesses from upto old new = AreTouched size blocks kind (take from accesses) old → AreTouched size blocks kind (take upto accesses) new
