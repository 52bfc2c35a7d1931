use Rattle.tx_blocks.proofs.{Words.{[], arith, look_access}, Marking.{open_from, may_mark, marked_access}}

pub mark-requires : Rattle.tx_blocks.proofs.steps.look.Goals.mark-requires
mark-requires g c =
    let state = g.T.TxBlocks.state in
    let is_open = open_from (state c.args.tx.now) c.args.block _ _ c.in_ok-read_block.ensures.cause in
    may_mark (state c.args.tx.now) (state c.read_block.new.self) (look_access c.args.block []) c.args.span c.in_ok-read_block.ensures.read is_open c.requires.span (omega arith)

pub returns-clause-read : Rattle.tx_blocks.proofs.steps.look.Goals.returns-clause-read
returns-clause-read g c =
    let state = g.T.TxBlocks.state in
    marked_access (state c.args.tx.now) (state c.read_block.new.self) (state c.mark.new.tx) (look_access c.args.block []) c.args.span c.in_ok-read_block.ensures.read c.mark.ensures.marked
