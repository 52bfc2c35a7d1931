use Rattle.iso_tree.proofs.{Words.{◌≡◌, ◌≤◌, length, node_bytes}, Building.copied}

-- the cells so far were copied
abbrev pub invariant-loop-cell : Rattle.iso_tree.proofs.build.copy_without.Given.invariant-loop-cell
invariant-loop-cell l = record {
  bytes : l.into ≡ node_bytes (length l.fn.old) 0 (copied l.fn.key (length l.fn.old) l.fn.old l.cell);
  count : l.kept ≡ length (copied l.fn.key (length l.fn.old) l.fn.old l.cell);
  few : l.kept ≤ l.cell;
}
