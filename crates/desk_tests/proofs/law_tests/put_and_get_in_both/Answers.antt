use Rattle.store_laws.proofs.BothInTx.{gets_of_calls}

pub returns-in-Ok-get : Rattle.desk_tests.proofs.law_tests.put_and_get_in_both.Goals.returns-in-Ok-get
returns-in-Ok-get g c =
    gets_of_calls c.args.hash c.args.tree c.args.key.now c.args.one.now c.args.two.now (g.T.TxBlocks.state c.args.tx.now) (g.T.TxBlocks.state c.put.new.tx) (g.T.TxBlocks.state c.put-2.new.tx)
    (g.T.TxBlocks.state c.get.new.tx) (g.T.TxBlocks.state c.get-2.new.tx) c.in_default.field-0 c.in_default-put.field-0 c.in-Ok.found c.in-Ok-get.second c.requires.hash_area c.requires.tree_area c.requires.disjoint
    c.in_default.ensures.ended c.in_default.ensures.local c.in_default-put.ensures.ended c.in_default-put.ensures.local c.in-Ok.ensures.ended c.in-Ok.ensures.local c.in-Ok-get.ensures.ended c.in-Ok-get.ensures.local
