-- What a slot holds: an open device, an image that is being laid, or nothing.
use Rattle.std.specs.Prelude.{ℕ, List, Option, None, Some}
use Rattle.queued_disk.specs.declared.queued.QueuedDisk.{QueuedDisk}
use Rattle.device_desk.specs.Device.{Device}
use Rattle.isotope_c.specs.declared.instance.Instance.{Instance}
use Rattle.isotope_c.specs.declared.instance.Instance.TheVariants.{Laid, Open}

-- the open device
abbrev pub desk_in : Option Instance → Option (Device QueuedDisk)
desk_in None = None
desk_in (Some (Laid bytes)) = None
desk_in (Some (Open desk)) = Some desk

-- the bytes of the image that is being laid
abbrev pub laid_in : Option Instance → Option (List ℕ)
laid_in None = None
laid_in (Some (Laid bytes)) = Some bytes.items
laid_in (Some (Open desk)) = None
