-- A block that is read by its versions.
use Rattle.std.specs.Prelude.{ℕ, ◌≡◌, ◌+◌, ◌<◌, ◌≤◌, List, length, slice_index, unwrap_or}
use Rattle.mv_index.specs.{declared.version.Version.Version, Shown.byte_in}

-- The block has the bytes that the versions show, and where they show none those of the image from this place on.
abbrev pub IsOver : (image : List ℕ) → (base : ℕ) → List Version → List ℕ → Type 0
IsOver image base versions block =
    (p : ℕ) → p < length block → slice_index block p ≡ unwrap_or (byte_in image versions p) (slice_index image (base + p))

-- It has so from one byte up to another, whatever its others are.
abbrev pub IsOverIn : (from to : ℕ) → (image : List ℕ) → (base : ℕ) → List Version → List ℕ → Type 0
IsOverIn from to image base versions block =
    (p : ℕ) → from ≤ p → p < to → slice_index block p ≡ unwrap_or (byte_in image versions p) (slice_index image (base + p))

-- From one byte up to another the block has the bytes that the versions show, and where they show none it is as before.
abbrev pub IsLaidIn : (from to : ℕ) → (image : List ℕ) → List Version → (old new : List ℕ) → Type 0
IsLaidIn from to image versions old new =
    (p : ℕ) → from ≤ p → p < to → slice_index new p ≡ unwrap_or (byte_in image versions p) (slice_index old p)
