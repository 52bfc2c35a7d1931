use Rattle.iso_fs.proofs.{Words.{◌≡◌, length, without_bits, entries_of}, RemoveSteps.entries_from}

-- the blocks that are left are given back yet
abbrev pub invariant-loop-i : Rattle.iso_fs.proofs.left.give_data.Given.invariant-loop-i
invariant-loop-i l = record {
  left : without_bits l.map (entries_from l.file.bytes.now l.i l.file.count) ≡ without_bits l.fn.map (entries_of l.file.area.size l.file.bytes.now);
  long : length l.map ≡ length l.fn.map;
}
