use Rattle.iso_tree.proofs.{Words.{◌∙◌, refl, ap, arith, length, Ok, later_same, put_after, refused_first, spelled}, Getting.edit_unread}
use Rattle.store_model.specs.declared.stores.TxError.TheVariants as error

pub returns-in_default : Rattle.iso_tree.proofs.leaf.put_cell.Goals.returns-in_default
returns-in_default g c = record {
  run = edit_unread c.args.area c.args.leaf.block (put_after c.args.entry.now.key.now (spelled c.args.entry.now)) (Ok tt) (g.T.TxBlocks.state c.args.tx.now) (g.T.TxBlocks.state c.args.tx.now)
      (g.T.TxBlocks.device c.args.tx.now) (g.T.TxBlocks.device c.args.tx.now) error.Memory refl refl;
  behaves = refused_first error.Memory refl refl (later_same (g.T.TxBlocks.device c.args.tx.now) (g.T.TxBlocks.device c.args.tx.now) refl) (omega arith);
}

pub returns : Rattle.iso_tree.proofs.leaf.put_cell.Goals.returns
returns g c = record {
  run = c.store_leaf.ensures.run c.args.old.now (put_after c.args.entry.now.key.now (spelled c.args.entry.now)) c.requires.leaf.bytes (c.deref.ensures.value ∙ c.in-Ok.ensures.value);
  behaves = c.store_leaf.ensures.behaves;
}

pub store_leaf-requires-clause-bytes : Rattle.iso_tree.proofs.leaf.put_cell.Goals.store_leaf-requires-clause-bytes
store_leaf-requires-clause-bytes g c = ap length c.deref.ensures.value ∙ c.in-Ok.ensures.long
