pub returns : Rattle.device_calls.proofs.tree.PutTreeBlocksCall.make.Goals.returns
returns g c = record {
  answers = record { local = c.put.ensures.local; bad_key = c.put.ensures.bad_key; cause = c.put.ensures.cause; later = c.put.ensures.later; passed = c.put.ensures.passed };
  ended = c.put.ensures.ended;
  bad_value = c.put.ensures.bad_value;
  unwritten = c.put.ensures.unwritten;
}
