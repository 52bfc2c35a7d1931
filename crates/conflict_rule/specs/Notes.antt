-- What contracts see of `Notes`: the commits in order, each with the bytes that it wrote.
use Rattle.std.specs.Prelude.{ℕ, ◌+◌, ◌≤◌, ◌==◌, cond, filter, nat_lt, List, [], ◌∷◌, Option, Some, None}
use Rattle.byte_marks.specs.declared.extent.Extent.{Extent}

-- a commit's number, and what it wrote: blocks, each with its bytes
abbrev pub Note : Type 0
Note = ℕ × List (ℕ × List Extent)

-- the notes, and how many there is room for
pub record Held : Type 0 where
  pub notes : List Note
  pub room : ℕ

-- the numbers rise, from `from` on
abbrev pub RisesFrom : ℕ → List Note → Type 0
RisesFrom from [] = Unit {0}
RisesFrom from (note ∷ notes) = (from ≤ note.0) × RisesFrom (note.0 + 1) notes

-- the notes of the commits above a number
abbrev pub above : ℕ → List Note → List Note
above number notes = filter (λ note. nat_lt number note.0) notes

-- the bytes that the commit of this number wrote, if it is held
abbrev pub note_of : ℕ → List Note → Option (List (ℕ × List Extent))
note_of number [] = None
note_of number (note ∷ notes) = cond (note.0 == number) (Some note.1) (note_of number notes)
