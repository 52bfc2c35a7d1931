use Rattle.iso_fs.proofs.{Words.arith, Parts.{store_done, store_stops}}

pub returns-in-Err-clause-part : Rattle.iso_fs.proofs.writing.write_news.Goals.returns-in-Err-clause-part
returns-in-Err-clause-part g c = λ first same. store_stops c.in-Err.ensures.kept (omega arith) c.in-Err.ensures.cause c.in-Err.ensures.device

pub returns-clause-part : Rattle.iso_fs.proofs.writing.write_news.Goals.returns-clause-part
returns-clause-part g c = λ first same. store_done (g.met.T.TxBlocks.limits c.store_first.new.tx) (c.in_default.ensures.stored first same) c.in_default.ensures.device c.write_grown.ensures.of_tx c.write_grown.ensures.part
