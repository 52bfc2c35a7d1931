-- What the calls that write a record ask of its parts, and a record up to its parts.
use Rattle.std.specs.{Prelude.{ℕ, List, [], ◌∷◌, ◌++◌, IsTrue}, Int.{to_be_bytes, w32, w64}}
use Rattle.iso_model.specs.{declared.access.Geometry.Geometry, declared.access.Run.Run, Geometry.is_valid, Image.AreRuns}

-- in the array of some valid geometry the parts are maximal runs, rising
abbrev pub LieInAnImage : List Run → Type 0
LieInAnImage parts = (g : Geometry) × IsTrue (is_valid g) × AreRuns g parts

-- the first 20 bytes of a record with `count` parts, whose bytes have this length
abbrev pub head : (gate kind n count len : ℕ) → List ℕ
head gate kind n count len = gate ∷ kind ∷ 0 ∷ 0 ∷ [] ++ to_be_bytes w32 count ++ to_be_bytes w32 len ++ to_be_bytes w64 n
