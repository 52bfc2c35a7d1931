use Rattle.std.proofs.Common.{ap, arith}
use Rattle.store_model.specs.declared.stores.StoreError.TheVariants as store
use Rattle.iso_tree.proofs.Climbing.{write_done, write_fails, written_one}

pub returns-in-Ok : Rattle.iso_tree.proofs.climb.store_next.Goals.returns-in-Ok
returns-in-Ok g c = record {
  run = λ rest. write_done c.args.block c.args.bytes.now rest (g.T.TxBlocks.state c.args.tx.now) (g.T.TxBlocks.state c.store.new.tx) c.in-Ok.ensures.stored (g.met.T.TxBlocks.limits c.store.new.tx).count;
  after = written_one (g.T.TxBlocks.state c.args.tx.now) (g.T.TxBlocks.state c.store.new.tx) _ c.in-Ok.ensures.stored (g.met.T.TxBlocks.limits c.store.new.tx).count;
  only = record { memory = tt; device = c.in-Ok.ensures.device };
}

pub returns-in-Err : Rattle.iso_tree.proofs.climb.store_next.Goals.returns-in-Err
returns-in-Err g c = record {
  run = grind (arith, write_fails);
  after = tt;
  only = record { memory = ap (λ e. store.Tx e) (c.in-Err.ensures.room c.requires.room c.requires.is_open); device = c.in-Err.ensures.device };
}
