-- What a list with room ends as, where a `&mut` to an item of it is handed out.
use Rattle.std.specs.{Prelude.{ℕ, Option}, Borrow.{LendsIf, Fml, RattleType, MutBor}}
use Rattle.iso_model.specs.{Reserved.{WithRoom, with_item}, contracts.reserved.Reserved.the_row}

-- once the borrow r ends, the item at place i is the last value behind r; at `None` the list stays as it is
abbrev pub lends_item : (T : RattleType) → MutBor (WithRoom T.Denot) → (i : ℕ) → Option (MutBor T.Denot) → Fml
lends_item T list i r = LendsIf (the_row T) T list r (with_item list.now i) list.now
