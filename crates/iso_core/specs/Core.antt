-- What a core represents.
use Rattle.std.specs.Prelude.{◌≡◌, ℕ, List}
use Rattle.iso_disk.specs.Disk.{DiskState, IsSettled}
use Rattle.iso_image.specs.Half.{IsHeld, half_of_world}
use Rattle.iso_model.specs.{Geometry.image_size, World.World}
use Rattle.iso_core.specs.{declared.core_itself.Core.Core, declared.kept.Kept.Kept, Kept.IsOf, Standing.{Standing, up, down, is_down, ShowsWith}}

-- every image that a crash now may leave is what a read gives, and holds the half of the world
pub record AllHold (d : DiskState) (half : ℕ) (W : World) : Type 0 where
  pub settled : IsSettled d
  pub each : (c : List ℕ) → d.now c → IsHeld W.geometry (half_of_world W half) c

-- what the images of a core are that is up, and of one that is down
abbrev pub AreImages : Standing → (d : DiskState) → (half : ℕ) → World → Type 0
AreImages up d half W = AllHold d half W
AreImages (down lost) d half W = (c : List ℕ) → d.now c → ShowsWith W lost c

-- a disk and what is kept of it stand for the world
pub record AreOf (d : DiskState) (kept : Kept) (W : World) (standing : Standing) : Type 0 where
  pub kept_of : IsOf kept W
  pub is_down : kept.down ≡ is_down standing
  pub size : d.size ≡ image_size W.geometry
  pub images : AreImages standing d kept.half W

-- the disk of a core
abbrev pub disk_of : {D : Type 0} → Core D → D
disk_of core = core.disk

-- The core represents the world, but for the accesses and the places of its transactions. While it is up, each image that
-- a crash now may leave holds the world's history; once it is down, perhaps with the lost commits after it.
abbrev pub StandsFor : {D : Type 0} → (state : D → DiskState) → Core D → World → Standing → Type 0
StandsFor state core W standing = AreOf (state core.disk) core.kept W standing
