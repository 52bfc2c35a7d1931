-- What the making of an image leaves of a blank disk.
use Rattle.std.specs.Prelude.{◌≡◌, ◌⊎◌, ℕ, ◌+◌, ◌-◌, ◌*◌, List, [], ◌∷◌, ◌++◌, Some, length, replicate}
use Rattle.iso_model.specs.{declared.access.Geometry.Geometry, Geometry.image_size, Image.{Written, half_header, records, superblock}, World.empty_history}
use Rattle.iso_image.specs.{Half.{IsHeld, half_of}, Refusal.refusal, declared.open_error.OpenError.TheVariants.NotIsotope}

-- `size` bytes: 63 of a superblock, its gate, the header of the first half, and zeros
abbrev pub fronted : (gate : ℕ) → (front header : List ℕ) → (size : ℕ) → List ℕ
fronted gate front header size = front ++ gate ∷ [] ++ header ++ replicate (size - 96) 0

-- the same with a closed gate
abbrev pub staged : (front header : List ℕ) → (size : ℕ) → List ℕ
staged front header size = fronted 0 front header size

-- an image that holds these records in its first half, over a base of zeros
abbrev pub whole_image : Geometry → (generation base : ℕ) → List Written → List ℕ
whole_image g generation base told =
    superblock 1 g
    ++ (half_header 1 g.form generation base
    ++ (replicate (g.blocks * g.block) 0
    ++ (records g (base + 1) told
    ++ replicate (image_size g - 96 - g.blocks * g.block - length (records g (base + 1) told)) 0)))

-- an image of either form on which nothing was committed
abbrev pub new_image : Geometry → List ℕ
new_image g = superblock 1 g ++ half_header 1 g.form 1 0 ++ replicate (image_size g - 96) 0

-- the bytes are refused as no image of this project
abbrev pub IsUnmade : List ℕ → Type 0
IsUnmade bytes = refusal bytes ≡ Some NotIsotope

-- they are an image on which nothing was committed
abbrev pub HoldsNothing : Geometry → List ℕ → Type 0
HoldsNothing g bytes = IsHeld g (half_of g 0 1 0 (empty_history g)) bytes

abbrev pub IsUnmadeOrEmpty : Geometry → List ℕ → Type 0
IsUnmadeOrEmpty g bytes = IsUnmade bytes ⊎ HoldsNothing g bytes
