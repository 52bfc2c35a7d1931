-- What contracts see of `Touched`: a set of bytes for each block.
use Rattle.std.specs.{Prelude.{◌≡◌, ℕ, ◌+◌, ◌≤◌, ◌==◌, ◌&&◌, Bool, List, [], ◌∷◌, nat_lt}, List.list_any}
use Rattle.byte_marks.specs.{declared.extent.Extent.Extent, Marks.has}
use Rattle.iso_model.specs.{declared.access.Access.Access, declared.access.Kind.Kind}
use Rattle.iso_model.specs.Effect as model

-- whether the entry has the byte p of block b
abbrev pub entry_has : (b p : ℕ) → ℕ × List Extent → Bool
entry_has b p entry = (entry.0 == b) && has entry.1 p

-- whether the byte p of block b is touched
abbrev pub touches : List (ℕ × List Extent) → (b p : ℕ) → Bool
touches entries b p = list_any (entry_has b p) entries

-- the blocks rise, from `from` on
abbrev pub RisesFrom : ℕ → List (ℕ × List Extent) → Type 0
RisesFrom from [] = Unit {0}
RisesFrom from (entry ∷ entries) = (from ≤ entry.0) × RisesFrom (entry.0 + 1) entries

-- the bytes that accesses of this kind cover, in an array of `blocks` blocks of this size
pub record AreTouched (size blocks : ℕ) (kind : Kind) (accesses : List Access) (entries : List (ℕ × List Extent)) : Type 0 where
  pub is : (b p : ℕ) → touches entries b p ≡ (nat_lt b blocks && nat_lt p size && model.touches kind accesses b p)
