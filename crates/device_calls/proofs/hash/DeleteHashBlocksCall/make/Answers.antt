pub returns : Rattle.device_calls.proofs.hash.DeleteHashBlocksCall.make.Goals.returns
returns g c = record {
  answers = record { local = c.del.ensures.local; bad_key = c.del.ensures.bad_key; cause = c.del.ensures.cause; later = c.del.ensures.later; passed = c.del.ensures.passed };
  ended = c.del.ensures.ended;
  unwritten = c.del.ensures.unwritten;
}
