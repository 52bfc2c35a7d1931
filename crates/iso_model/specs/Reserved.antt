-- What contracts see of a list with room for more.
use Rattle.std.specs.Prelude.{ℕ, ◌+◌, List, length, slice_set}

-- the items in order, and how many more fit without memory
pub record WithRoom (T : Type 0) : Type 0 where
  pub items : List T
  pub room : ℕ

module _ {T : Type 0} where
  -- how many items fit in all
  abbrev pub places : WithRoom T → ℕ
  places list = length list.items + list.room

  -- the list with another item at place i
  abbrev pub with_item : WithRoom T → (i : ℕ) → T → WithRoom T
  with_item list i item = record list { items = slice_set list.items i item }
