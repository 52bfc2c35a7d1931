use Rattle.store_laws.proofs.PutAndScan.{put_then_scan_call}

pub returns-in-Ok : Rattle.desk_tests.proofs.law_tests.put_and_scan.Goals.returns-in-Ok
returns-in-Ok g c =
    put_then_scan_call c.args.region c.args.pair.0.now c.args.pair.1.now c.args.from.now c.args.to.now c.args.max (g.T.TxBlocks.state c.args.tx.now) (g.T.TxBlocks.state c.put.new.tx)
    (g.T.TxBlocks.state c.scan.new.tx) c.in-Ok.field-0 c.scan.result c.requires.area c.in-Ok.ensures.ended c.in-Ok.ensures.local c.scan.ensures.ended c.scan.ensures.local
