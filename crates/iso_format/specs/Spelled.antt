-- Records that are spelled one after another, and how a buffer holds them.
use Rattle.std.specs.{Prelude.{◌≡◌, ℕ, ◌+◌, ◌≤◌, List, length, take, drop, flat_map, slice_index}, List.AllByRecursion}
use Rattle.iso_model.specs.{declared.access.Run.Run, Image.part}
use Rattle.iso_format.specs.Records.{IsSmall, runs_of}

-- the bytes of finished records, and the parts of the one that is begun
pub record Spelled : Type 0 where
  pub records : List ℕ
  pub parts : List Run

-- the parts after a head
abbrev pub parts_behind : (start count : ℕ) → List ℕ → List Run
parts_behind start count bytes = runs_of count (drop (start + 20) bytes)

-- the bytes are records up to a place, then a head with a closed gate that is not written yet, and parts after it
pub record HoldsParts (start count : ℕ) (bytes : List ℕ) : Type 0 where
  pub head : start + 20 ≤ length bytes
  pub gate : slice_index bytes start ≡ 0
  pub small : AllByRecursion IsSmall (parts_behind start count bytes)
  pub parts : flat_map part (parts_behind start count bytes) ≡ drop (start + 20) bytes

abbrev pub spelled : (start count : ℕ) → List ℕ → Spelled
spelled start count bytes = record { records = take start bytes; parts = parts_behind start count bytes }
