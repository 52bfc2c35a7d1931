-- A queued disk keeps the laws of a disk.
use Rattle.std.{specs.Prelude.{ℕ, List, ◌<◌, slice_index, None, Some}, proofs.Common.subst}
use Rattle.iso_disk.specs.Disk.{IsLawful}
use Rattle.iso_memdisk.specs.Laws.{replayed_is_lawful}
use Rattle.queued_disk.specs.{declared.queued.QueuedDisk.QueuedDisk, Queued.{given, calls_of, file_of, state_of}}

pub lawful : (d : QueuedDisk) → IsLawful (state_of d)
lawful d = replayed_is_lawful (given d) (calls_of d) d.writes_fit (λ i. subst (λ (l : List ℕ). slice_index l i < 256) d.holds (d.told_bytes i)) d.faults 0 (Some (0, file_of d)) (λ _. None)
