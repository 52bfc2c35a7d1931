use Rattle.half_switch.proofs.Words.{◌≡◌, ◌≤◌, ◌+◌, List, length, take, AllByRecursion, LAST, IsRecord, Written, records, all_laid, AreBytesOf}

abbrev pub invariant-loop-i : Rattle.half_switch.proofs.lay.lay_records.Given.invariant-loop-i
invariant-loop-i l = record {
  inside : l.at ≤ length l.log;
  long : length l.into ≡ length l.fn.into;
  laid : (told : List Written) → AllByRecursion (IsRecord l.geometry) told → l.count ≤ length told → l.number + l.count ≤ LAST → AreBytesOf l.geometry (l.number + 1) told l.log
      → (l.into ≡ all_laid l.geometry.block (take l.i told) l.fn.into) × (l.at ≡ length (records l.geometry (l.number + 1) (take l.i told)));
}
