-- The array that a core shows a transaction, read from its disk.
use Rattle.std.specs.{Prelude.{ℕ, ◌+◌, ◌*◌, List, Option, map, option_map, slice_index, unwrap_or}, List.range_with_len}
use Rattle.iso_disk.specs.Disk.{DiskState}
use Rattle.iso_model.specs.{Array.Array, Geometry.base_place}
use Rattle.mv_index.specs.{declared.version.Version.Version, Shown.byte_in, Versions.{upto, versions_in}}
use Rattle.iso_core.specs.{declared.core_itself.Core.Core, declared.kept.Kept.Kept}

-- `size` bytes of the image from a place on, with the versions over them
abbrev pub over_bytes : (image : List ℕ) → (base size : ℕ) → List Version → List ℕ
over_bytes image base size versions = map (λ p. unwrap_or (byte_in image versions p) (slice_index image (base + p))) (range_with_len 0 size)

-- the blocks of the image at a commit's number
abbrev pub array_in : Kept → (n : ℕ) → (image : List ℕ) → Array
array_in kept n image =
    map (λ b. over_bytes image (base_place kept.geometry kept.half + b * kept.geometry.block) kept.geometry.block (upto n (versions_in kept.index b)))
    (range_with_len 0 kept.geometry.blocks)

-- the array of a core at a commit's number, where its disk tells it
abbrev pub array_told : {D : Type 0} → (state : D → DiskState) → Core D → (n : ℕ) → Option Array
array_told state core n = option_map (array_in core.kept n) (state core.disk).contents
