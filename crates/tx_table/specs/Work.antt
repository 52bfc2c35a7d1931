-- What contracts see of a `Work`: a transaction with its accesses, and how far the work is prepared.
use Rattle.std.specs.{Prelude.{◌≡◌, ℕ, ◌<◌, ◌≤◌, Bool, List, [], Option, IsFalse, length, take}, List.AllByRecursion}
use Rattle.iso_model.specs.{declared.access.Access.Access, declared.access.Geometry.Geometry, declared.access.Mode.Mode, declared.access.Span.Span, Effect.is_write, Premises.{AreBytes, AreAccesses, HasBytes, IsSpan}}
use Rattle.tx_table.specs.declared.rows.Row.{Row}

-- a transaction at work on an image of `blocks` blocks of `size` bytes
pub record Doing : Type 0 where
  pub begin : ℕ
  pub mode : Mode
  pub size : ℕ
  pub blocks : ℕ
  pub accesses : List Access
  -- the block for which there is room for one more access
  pub ready : Option ℕ
  -- whether what is touched and what is written are up to date
  pub settled : Bool

abbrev pub span_at : (off len : ℕ) → Span
span_at off len = record { off = off; len = len }

-- the accesses are such to `blocks` blocks of this size
abbrev pub AreWithin : (size blocks : ℕ) → List Access → Type 0
AreWithin size blocks accesses = (g : Geometry) → g.block ≡ size → g.blocks ≡ blocks → AreAccesses g accesses

-- the access that a row holds
abbrev pub access_of : Row → Access
access_of row = record { kind = row.kind; block = row.block; spans = take row.count row.spans; bytes = row.bytes.items }

-- a row of an access to blocks of this size
pub record IsRow (size : ℕ) (row : Row) : Type 0 where
  pub few : row.count ≤ 8
  pub marks : length (take row.count row.spans) ≡ row.count
  pub spans : AllByRecursion (IsSpan size) (take row.count row.spans)
  pub bytes : HasBytes size (access_of row)
  pub none : IsFalse (is_write (access_of row)) → row.bytes.items ≡ []
  pub values : AreBytes row.bytes.items

-- rows of accesses to `blocks` blocks of this size
abbrev pub AreRows : (size blocks : ℕ) → List Row → Type 0
AreRows size blocks rows = AllByRecursion (λ row. IsRow size row × (row.block < blocks)) rows
