-- What a memory disk holds now: the bytes that it had at first, unless a write has made a copy that it changes.
use Rattle.std.specs.{Prelude.{ℕ, List, Option, Some, None, Vec}, declared.alloc.Global.Global}

-- the copy, or the first bytes where there is none
abbrev pub held : Option (Vec ℕ Global) → List ℕ → List ℕ
held (Some copy) first = copy.items
held None first = first
