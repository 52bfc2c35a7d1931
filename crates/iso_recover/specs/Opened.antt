-- What an image was opened to.
use Rattle.std.specs.{Prelude.{◌≡◌, ℕ, ◌+◌, ◌≤◌, List, [], Option, Some, length}, Option.ForSome}
use Rattle.iso_model.specs.{declared.access.Geometry.Geometry, Geometry.{image_size, log_place}, History.{History, array_at, last}, Image.IsImage, World.fresh}
use Rattle.iso_core.specs.{declared.core_itself.Core.Core, declared.opening.Opened.Opened, Core.{AllHold, StandsFor}, Opening.{IsOpenedTo, opened_world}, Standing.up}
use Rattle.iso_disk.specs.Disk.{DiskState}
use Rattle.iso_format.specs.Spelled.{Spelled}
use Rattle.iso_log.specs.Extent.{Extent}
use Rattle.iso_image.specs.Refusal.{opened}
use Rattle.iso_recover.specs.declared.front.Front.{Front}
use Rattle.mv_index.specs.Versions.{BlockVersions, versions_in}

-- what the disk tells is an image of this history, and opens to it
pub record TellsImage (contents : Option (List ℕ)) (g : Geometry) (generation : ℕ) (H : History) : Type 0 where
  pub image : ForSome contents (λ c. IsImage c g generation H)
  pub opens : ForSome contents (λ c. opened c ≡ Some (record { geometry = g; generation = generation; history = H }))

-- What was read of an image is the half of this history, also over a disk that tells nothing: each image of now holds it.
pub record IsOpened (o : Opened) (H : History) (d : DiskState) : Type 0 where
  pub to : IsOpenedTo H o
  pub size : d.size ≡ image_size o.geometry
  pub holds : AllHold d o.half (opened_world H o)
  pub told : TellsImage d.contents o.geometry o.generation H

-- the front, the log and the index together, and a buffer for records
abbrev pub opened_of : Front → Extent → List BlockVersions → Spelled → Opened
opened_of f log index buffer = record { geometry = f.geometry; half = f.half; generation = f.generation; base = f.base; log = log; index = index; buffer = buffer }

-- what is known of an image on which nothing was committed
pub record IsNew (g : Geometry) (o : Opened) : Type 0 where
  pub is : o ≡ record {
    geometry = g;
    half = 0;
    generation = 1;
    base = 0;
    log = record { place = log_place g 0; room = g.log; used = 0; last = 0 };
    index = o.index;
    buffer = o.buffer;
  }
  pub blocks : length o.index ≡ g.blocks
  pub none : (b : ℕ) → versions_in o.index b ≡ []

-- The core is up, and represents the fresh world of what the disk told, also where it told nothing.
pub record HasOpened {D : Type 0} (state : D → DiskState) (core : Core D) (contents : Option (List ℕ)) : Type 0 where
  pub geometry : Geometry
  pub generation : ℕ
  pub history : History
  pub stands : StandsFor state core (fresh geometry generation history) up
  pub told : TellsImage contents geometry generation history

-- The core is up, and represents the fresh world of a history that ends at commit p of this one, with its array there and
-- at each earlier commit that it still has, in an image of this geometry of either form.
pub record HasReopened {D : Type 0} (state : D → DiskState) (core : Core D) (g : Geometry) (H : History) (p : ℕ) : Type 0 where
  pub form : ℕ
  pub generation : ℕ
  pub history : History
  pub stands : StandsFor state core (fresh (record g { form = form }) generation history) up
  pub last : last history ≡ p
  pub array : array_at history p ≡ array_at H p
  pub arrays : (n : ℕ) → history.first ≤ n + 1 → n ≤ p → array_at history n ≡ array_at H n
