-- Bytes of a block that are read where they are still wanted.
use Rattle.std.specs.Prelude.{ℕ, ◌≡◌, ◌+◌, ◌-◌, ◌<◌, ◌&&◌, not, cond, List, length, slice_index}
use Rattle.mv_index.specs.{Masks.is_seen, Versions.in_bytes}

-- of the `len` bytes from `off` on, those that were not seen are the image's, and all others as before
abbrev pub IsFilled : (image : List ℕ) → (place off len : ℕ) → (seen old new : List ℕ) → Type 0
IsFilled image place off len seen old new =
    (p : ℕ) → p < length old → slice_index new p ≡ cond (in_bytes off len p && not (is_seen seen p)) (slice_index image (place + (p - off))) (slice_index old p)
