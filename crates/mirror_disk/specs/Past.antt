-- The moments of a mirror.
use Rattle.std.specs.Prelude.{ℕ, List, [], ◌∷◌}
use Rattle.iso_disk.specs.Disk.{DiskState}
use Rattle.mirror_disk.specs.{declared.past.Last.Last, declared.past.Last.TheVariants.{Start, Later}}

-- the moments of both sides before each call, the last call first
abbrev pub moments : {A B : Type 0} → (A → DiskState) → (B → DiskState) → Last A B → List (ℕ × ℕ)
moments first second Start = []
moments first second (Later a b before) = ((first a.value).clock, (second b.value).clock) ∷ before.value
