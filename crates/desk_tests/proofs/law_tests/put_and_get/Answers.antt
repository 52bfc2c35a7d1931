use Rattle.store_laws.proofs.PutAndGet.{put_then_get_call}

pub returns-in-Ok : Rattle.desk_tests.proofs.law_tests.put_and_get.Goals.returns-in-Ok
returns-in-Ok g c =
    put_then_get_call c.args.region c.args.key.now c.args.value.now (g.T.TxBlocks.state c.args.tx.now) (g.T.TxBlocks.state c.put.new.tx) (g.T.TxBlocks.state c.get.new.tx) c.in-Ok.field-0 c.get.result
    c.requires.area c.in-Ok.ensures.ended c.in-Ok.ensures.local c.get.ensures.ended c.get.ensures.local
