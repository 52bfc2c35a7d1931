-- Where the list of a device begins that is over a new image of the tests.
use Rattle.iso_core.specs.{declared.core_itself.Core.Core, Core.disk_of}
use Rattle.iso_memdisk.specs.{declared.disk.MemDisk.MemDisk, MemDisk.state_of}
use Rattle.iso_model.specs.World.{empty_history, fresh}
use Rattle.iso_shared.specs.{Standing.start_at, States.Start, TestImage.{MayStart, small}}

-- a core over such an image begins the list
abbrev pub start_of : Core MemDisk → Start
start_of core = start_at (fresh small 1 (empty_history small)) (state_of (disk_of core))

abbrev pub IsNew : Core MemDisk → Type 0
IsNew core = MayStart state_of (start_of core) (state_of (disk_of core)) core
