use Rattle.iso_tree.proofs.{Words.{◌≡◌, ◌≤◌, ◌++◌, take, length, with_used}, Taking.free_from}

-- what was taken and what is free after it
abbrev pub invariant-loop-i : Rattle.iso_tree.proofs.grow.take_blocks.Given.invariant-loop-i
invariant-loop-i l = record {
  used : l.map ≡ with_used l.fn.map (take l.i l.news);
  list : take l.i l.news ++ free_from l.map l.region.size l.first ≡ free_from l.fn.map l.region.size 1;
  inside : l.first ≤ l.region.size;
  long : length l.news ≡ length l.fn.news;
}
