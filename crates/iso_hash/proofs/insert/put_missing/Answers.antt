use Rattle.iso_hash.proofs.Words.{sym, subst, Option, put_at, AtEnd, Spot, HasRun}

pub returns-in-None : Rattle.iso_hash.proofs.insert.put_missing.Goals.returns-in-None
returns-in-None g c = record {
  run = (let state = g.T.TxBlocks.state in
      subst (λ (o : Option Spot). HasRun (put_at c.args.key.now.area c.args.key.now.bytes.now c.args.value.now (AtEnd o c.args.last c.args.position)) (state c.args.tx.now) (state c.put_block.new.tx) c.put_block.result) (sym c.in-None.is) c.put_block.ensures.run);
  behaves = c.put_block.ensures.behaves;
}
