use Rattle.iso_tree.proofs.Words.{◌∙◌, ap, ℕ, node_bytes, used_cells, without_key}

pub returns : Rattle.iso_tree.proofs.remove.remove_cell.Goals.returns
returns g c = record {
  run = c.store_leaf.ensures.run c.args.old.now (without_key c.args.key.now) c.requires.leaf.bytes (c.copy_without.ensures ∙ ap (λ (n : ℕ). node_bytes n 0 (without_key c.args.key.now (used_cells n c.args.old.now))) c.requires.buffers.long);
  behaves = c.store_leaf.ensures.behaves;
  known = c.store_leaf.ensures.known;
}
