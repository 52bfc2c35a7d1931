-- The versions that the records of a log make, each with the place of its bytes.
use Rattle.std.specs.Prelude.{ℕ, ◌≡◌, ◌+◌, ◌==◌, ◌<◌, cond, List, [], ◌∷◌, ◌++◌, length}
use Rattle.iso_model.specs.{declared.access.Geometry.Geometry, declared.access.Run.Run, Effect.record_length, Image.Written}
use Rattle.mv_index.specs.{declared.version.Version.Version, Versions.{BlockVersions, shown_since, versions_in}}

-- the version that a run makes, whose part begins at this place of the image
abbrev pub version_of : (n at : ℕ) → Run → Version
version_of n at run = record { number = n; place = at + 8; off = run.off; len = length run.bytes }

-- the versions of block b in the parts of commit n, the first of which begins at this place
abbrev pub placed : (b n at : ℕ) → List Run → List Version
placed b n at [] = []
placed b n at (run ∷ runs) = cond (run.block == b) (version_of n at run ∷ placed b n (at + (8 + length run.bytes)) runs) (placed b n (at + (8 + length run.bytes)) runs)

-- the versions of block b in these records, the first of which has the number n and begins at this place
abbrev pub versions_of : (b n at : ℕ) → List Written → List Version
versions_of b n at [] = []
versions_of b n at (w ∷ more) = placed b n (at + 20) w.parts ++ versions_of b (n + 1) (at + record_length w.parts) more

-- The index has for each block the versions that the records make, without those that show no byte at t. The first of
-- the records has the number first and begins at this place of the image.
pub record IsIndexOf (g : Geometry) (first place t : ℕ) (told : List Written) (index : List BlockVersions) : Type 0 where
  pub blocks : length index ≡ g.blocks
  pub each : (b : ℕ) → b < g.blocks → versions_in index b ≡ shown_since t (versions_of b first place told)
