use Rattle.kept_disk.proofs.Words.{◌+◌, ◌-◌, ◌≤◌, ℕ, List, length, take, spliced, Stand}

abbrev pub invariant-loop-done : Rattle.kept_disk.proofs.parts.lay_parts.Given.invariant-loop-done
invariant-loop-done l = record {
  within : l.done ≤ length l.bytes;
  stand : (c : List ℕ) → l.at + length l.bytes ≤ length c → Stand l.fn.pages.numbers.items l.fn.pages.ends.items l.fn.pages.bytes.items c → Stand l.pages.numbers.items l.pages.ends.items l.pages.bytes.items (spliced c l.at (take l.done l.bytes));
}

abbrev pub decreases-loop-done : Rattle.kept_disk.proofs.parts.lay_parts.Given.decreases-loop-done
decreases-loop-done l = length l.bytes - l.done
