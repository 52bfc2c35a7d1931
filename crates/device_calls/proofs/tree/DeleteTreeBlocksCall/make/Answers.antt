use Rattle.device_calls.proofs.Visiting.{unwritten}

pub returns : Rattle.device_calls.proofs.tree.DeleteTreeBlocksCall.make.Goals.returns
returns g c = record {
  answers = record { local = c.del.ensures.local; bad_key = c.del.ensures.bad_key; cause = c.del.ensures.cause; later = c.del.ensures.later; passed = c.del.ensures.passed };
  ended = c.del.ensures.ended;
  unwritten = unwritten c.del.result (g.T.TxBlocks.state c.args.tx.now) (g.T.TxBlocks.state c.del.new.tx) 1 c.del.ensures.unwritten;
}
