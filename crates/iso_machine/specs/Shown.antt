-- What the images of a machine's core show.
use Rattle.std.specs.Prelude.{List, ℕ}
use Rattle.iso_disk.specs.Disk.{DiskState}
use Rattle.iso_model.specs.{History.last, Image.Shows, World.World}
use Rattle.iso_core.{specs.declared.core_itself.Core.Core, specs.Core.{StandsFor, disk_of}, specs.Standing.up, proofs.Moments.shows_world}

-- each image of a core shows the history of its world
pub shows : {D : Type 0} (state : D → DiskState) (core : Core D) (W : World) → StandsFor state core W up
    → (c : List ℕ) → (state (disk_of core)).now c → Shows c W.geometry W.history (last W.history)
shows state core W of c image = shows_world W core.kept.half of.kept_of.world c (of.images.each c image)
