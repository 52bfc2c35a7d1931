use Rattle.std.proofs.Common.{◌-◌, ◌≤◌}

abbrev pub invariant-loop-at : Rattle.file_disk.proofs.files.fill.Given.invariant-loop-at
invariant-loop-at l = l.at ≤ l.size

abbrev pub decreases-loop-at : Rattle.file_disk.proofs.files.fill.Given.decreases-loop-at
decreases-loop-at l = l.size - l.at
