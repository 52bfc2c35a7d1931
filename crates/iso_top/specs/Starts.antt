-- What a call begins with.
use Rattle.std.specs.{Prelude.{◌≡◌, ◌⊎◌, ℕ, List, Option, Some, None, IsSome}, Option.ForSome}
use Rattle.counts.specs.Count.{one_more}
use Rattle.iso_disk.specs.Disk.{DiskState, IsBoundTo, SinceBind}
use Rattle.iso_model.specs.{declared.access.Geometry.Geometry, History.History, World.{World, empty_history, fresh}}
use Rattle.iso_recover.specs.{Made.{IsUnmade, IsUnmadeOrEmpty}, Opened.TellsImage}
use Rattle.iso_image.specs.declared.open_error.OpenError.{OpenError}
use Rattle.iso_image.specs.declared.open_error.OpenError.TheVariants as error

-- The disk tells what the name names, before it is bound.
abbrev pub TellsNamed : List ℕ → DiskState → Type 0
TellsNamed name disk = IsSome (disk.named name)

-- what it told there, it tells of its bytes later
abbrev pub GoesOnTelling : List ℕ → (old new : DiskState) → Type 0
GoesOnTelling name old new = TellsNamed name old → IsSome new.contents

-- Of all names that are bound from one state to the other, there is one: no other image was made, wiped or opened.
abbrev pub WasBoundOnce : (old new : DiskState) → Type 0
WasBoundOnce old new = new.binds ≡ one_more old.binds

-- The world that the image as given opens to, where the disk told it.
pub record OpensTo (contents : Option (List ℕ)) (W : World) : Type 0 where
  pub geometry : Geometry
  pub generation : ℕ
  pub history : History
  pub told : TellsImage contents geometry generation history
  pub world_is : W ≡ fresh geometry generation history

-- The world that a call begins with: that of a new image of the geometry, or that of the image as given.
abbrev pub StartsFrom : (made : Option Geometry) → (given : Option (List ℕ)) → World → Type 0
StartsFrom (Some g) given W = W ≡ fresh g 1 (empty_history g)
StartsFrom None given W = OpensTo given W

-- what an image is before a script is begun: none of this project or empty where it is made, and as given where it is opened
abbrev pub IsUntouched : (made : Option Geometry) → (given : Option (List ℕ)) → List ℕ → Type 0
IsUntouched (Some g) given image = IsUnmadeOrEmpty g image
IsUntouched None given image = ForSome given (λ c. image ≡ c)

-- an image that is made may be none of this project for a while
abbrev pub MayBeUnmade : (made : Option Geometry) → List ℕ → Type 0
MayBeUnmade (Some g) image = IsUnmade image
MayBeUnmade None image = ⊥

-- the bind failed, or else each image left since it is as it was before a script
abbrev pub IsUnbegun : (made : Option Geometry) → (given : Option (List ℕ)) → (name : List ℕ) → OpenError → DiskState → Type 0
IsUnbegun made given name e disk = ((e ≡ error.Disk) × (disk.bound ≡ None)) ⊎ (IsBoundTo name disk × SinceBind disk (IsUntouched made given))
