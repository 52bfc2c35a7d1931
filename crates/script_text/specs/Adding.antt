-- What a step of the printer adds to a text.
use Rattle.std.specs.Prelude.{◌≡◌, ℕ, ◌+◌, ◌≤◌, List, ◌++◌, Result, OnErr, OnOk}
use Rattle.script_text.specs.{Ending.WithFront, Printing.Extends}

-- these bytes are added to the old ones; where that fails, a part of them may be
pub record Adds {T E : Type 0} (result : Result T E) (old new more : List ℕ) : Type 0 where
  pub ok : OnOk result (new ≡ old ++ more)
  pub err : OnErr result (Extends old new)

-- these bytes are added to the old ones; where that fails, nothing is
pub record AddsAll {T E : Type 0} (result : Result T E) (old new more : List ℕ) : Type 0 where
  pub ok : OnOk result (new ≡ old ++ more)
  pub err : OnErr result (new ≡ old)

-- these bytes are put before the old ones, and take at most so much of their room
pub record Puts (old new : WithFront) (most : ℕ) (more : List ℕ) : Type 0 where
  pub text : new.text ≡ more ++ old.text
  pub room : old.room ≤ new.room + most
