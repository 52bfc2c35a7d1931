pub returns : Rattle.device_calls.proofs.hash.GetHashBlocksCall.make.Goals.returns
returns g c = record {
  answers = record { local = c.get.ensures.local; bad_key = c.get.ensures.bad_key; cause = c.get.ensures.cause; later = c.get.ensures.later; passed = c.get.ensures.passed };
  ended = c.get.ensures.ended;
  reads = c.get.ensures.reads;
}
