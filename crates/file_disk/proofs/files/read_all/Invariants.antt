use Rattle.std.proofs.Common.{◌-◌, ◌≤◌, length}

abbrev pub invariant-loop-done : Rattle.file_disk.proofs.files.read_all.Given.invariant-loop-done
invariant-loop-done l = l.done ≤ length l.into

abbrev pub decreases-loop-done : Rattle.file_disk.proofs.files.read_all.Given.decreases-loop-done
decreases-loop-done l = length l.into - l.done
