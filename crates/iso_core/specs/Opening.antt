-- What a core is opened with.
use Rattle.std.specs.Prelude.{◌≡◌, ◌+◌, ◌≤◌}
use Rattle.iso_image.specs.Half.{half_of_world}
use Rattle.iso_log.specs.Extent.{extent_of}
use Rattle.iso_model.specs.{Geometry.log_place, History.History, World.{World, fresh}, Worlds.IsWorld}
use Rattle.mv_index.specs.Placed.{IsIndexOf}
use Rattle.iso_core.specs.declared.opening.Opened.{Opened}

-- the world that an image with this history opens to
abbrev pub opened_world : History → Opened → World
opened_world H opened = fresh opened.geometry opened.generation H

-- What was read or made is the half of an image with this history, from its first record on: its log, and the index of its records.
pub record IsOpenedTo (H : History) (opened : Opened) : Type 0 where
  pub world : IsWorld (opened_world H opened)
  pub base : opened.base + 1 ≡ H.first
  pub half : opened.half ≤ 1
  pub log : opened.log ≡ extent_of opened.geometry (half_of_world (opened_world H opened) opened.half)
  pub index : IsIndexOf opened.geometry (opened.base + 1) (log_place opened.geometry opened.half) opened.base (half_of_world (opened_world H opened) opened.half).told opened.index
