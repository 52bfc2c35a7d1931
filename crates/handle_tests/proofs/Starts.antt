-- Where the list of a device begins that is over a new image of the tests.
use Rattle.std.{proofs.Common.{◌≡◌, Some, Result, IfOk}, specs.Result.{result_ok}}
use Rattle.iso_core.specs.{declared.core_itself.Core.Core, Core.{StandsFor, disk_of}, Standing.up}
use Rattle.iso_memdisk.specs.{declared.disk.MemDisk.MemDisk, Laws.lawful, MemDisk.state_of}
use Rattle.iso_model.specs.World.{empty_history, fresh}
use Rattle.iso_shared.{specs.{Standing.start_at, States.Start, TestImage.{MayStart, small}}, proofs.TestStarts.{may_start, ok_has}}

abbrev pub start_of : Core MemDisk → Start
start_of core = start_at (fresh small 1 (empty_history small)) (state_of (disk_of core))

-- a core over such an image, which was taken out of the answer, begins it
pub starts : {E : Type 0} (made : Result (Core MemDisk) E) (core : Core MemDisk) → Some core ≡ result_ok made → IfOk made (λ (k : Core MemDisk). StandsFor state_of k (fresh small 1 (empty_history small)) up)
    → MayStart state_of (start_of core) (state_of (disk_of core)) core
starts made core same stands = may_start state_of core (lawful (disk_of core)) (ok_has (λ (k : Core MemDisk). StandsFor state_of k (fresh small 1 (empty_history small)) up) made core same stands)
