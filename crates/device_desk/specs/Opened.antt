-- What a desk is opened to.
use Rattle.std.specs.Prelude.{◌≡◌, ◌+◌, ◌≤◌, ℕ, List, Option}
use Rattle.iso_disk.specs.Disk.{DiskState}
use Rattle.iso_model.specs.{declared.access.Geometry.Geometry, History.{History, array_at, last}, World.fresh}
use Rattle.iso_recover.specs.Opened.{TellsImage}
use Rattle.device_desk.specs.Device.{Device, StandsAt}

-- It is up, and represents the fresh world of what the disk told, also where it told nothing.
pub record IsOpenedAs {D : Type 0} (state : D → DiskState) (desk : Device D) (contents : Option (List ℕ)) : Type 0 where
  pub geometry : Geometry
  pub generation : ℕ
  pub history : History
  pub stands : StandsAt state desk (fresh geometry generation history)
  pub told : TellsImage contents geometry generation history

-- It is up, and represents the fresh world of a history that ends at commit p of this one, with its array there and at each earlier
-- commit that it still has, in an image of this geometry of either form.
pub record IsReopenedAs {D : Type 0} (state : D → DiskState) (desk : Device D) (g : Geometry) (H : History) (p : ℕ) : Type 0 where
  pub form : ℕ
  pub generation : ℕ
  pub history : History
  pub stands : StandsAt state desk (fresh (record g { form = form }) generation history)
  pub last : last history ≡ p
  pub array : array_at history p ≡ array_at H p
  pub arrays : (n : ℕ) → history.first ≤ n + 1 → n ≤ p → array_at history n ≡ array_at H n
