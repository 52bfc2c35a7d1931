pub returns : Rattle.device_calls.proofs.tree.ScanTreeBlocksCall.make.Goals.returns
returns g c = record {
  answers = record { local = c.scan.ensures.local; bad_key = c.scan.ensures.bad_key; cause = c.scan.ensures.cause; later = c.scan.ensures.later; passed = c.scan.ensures.passed };
  ended = c.scan.ensures.ended;
  reads = c.scan.ensures.reads;
}
