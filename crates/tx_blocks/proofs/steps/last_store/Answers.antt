use Rattle.tx_blocks.proofs.{Words.{Ok, Result, StoreError, Program, Done, Store}, Progress.at_start, Refusals.cut_at_store}

pub returns-in-Err-clause-run : Rattle.tx_blocks.proofs.steps.last_store.Goals.returns-in-Err-clause-run
returns-in-Err-clause-run g c =
    let state = g.T.TxBlocks.state in
    let whole : Program (Result _ StoreError) = Store c.args.block c.args.spans.now c.args.bytes.now (Done (Ok c.args.answer)) in
    cut_at_store whole c.args.block c.args.spans.now c.args.bytes.now (Done (Ok c.args.answer)) (state c.args.tx.now) (state c.args.tx.now) (state c.store.new.tx)
    (g.T.TxBlocks.device c.args.tx.now) (g.T.TxBlocks.device c.store.new.tx) c.in-Err.e (at_start whole (state c.args.tx.now)) c.in-Err.ensures.kept c.in-Err.ensures.cause
