-- A gate in an image, and the body after it.
use Rattle.std.specs.{Prelude.{◌≡◌, ◌≢◌, ℕ, ◌+◌, List, length, slice_index}, List.slice_range}

-- the gate byte is 1
abbrev pub IsOpen : ℕ → List ℕ → Type 0
IsOpen gate image = slice_index image gate ≡ 1

-- the gate byte is any other
abbrev pub IsClosed : ℕ → List ℕ → Type 0
IsClosed gate image = slice_index image gate ≢ 1

-- these bytes stand after the gate
abbrev pub HasBody : ℕ → List ℕ → List ℕ → Type 0
HasBody gate body image = slice_range image (gate + 1) (gate + 1 + length body) ≡ body
