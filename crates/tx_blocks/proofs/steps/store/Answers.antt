use Rattle.tx_blocks.proofs.{Words.{◌∙◌, sym, ap, take, get_or, List, [], ◌∷◌, arith, length-take-le, take_more, Span, IsSpan, store_access, with_accesses}, Marking.{open_from, may_mark, marked_access, all_at}}

pub mark-requires : Rattle.tx_blocks.proofs.steps.store.Goals.mark-requires
mark-requires g c =
    let state = g.T.TxBlocks.state in
    let is_open = open_from (state c.args.tx.now) c.args.block _ _ c.in_ok-write_block.ensures.cause in
    may_mark (state c.args.tx.now) (state c.loop-span.tx) (store_access c.args.block (take c.loop-span.span-index c.args.spans.now) c.args.bytes.now) _ c.loop-span.invariant.stored is_open
    (all_at (IsSpan (state c.args.tx.now).size) c.args.spans.now c.loop-span.span-index _ c.requires.spans c.loop-span-test.true)
    (omega (arith, length-take-le c.loop-span.span-index c.args.spans.now (omega arith)))

pub loop-span-preserved : Rattle.tx_blocks.proofs.steps.store.Goals.loop-span-preserved
loop-span-preserved g c =
    let state = g.T.TxBlocks.state in
    let span : Span = get_or c.args.spans.now c.loop-span.span-index (record { off = 0; len = 0 }) in
    record {
      stored = marked_access (state c.args.tx.now) (state c.loop-span.tx) (state c.mark.new.tx) (store_access c.args.block (take c.loop-span.span-index c.args.spans.now) c.args.bytes.now) span c.loop-span.invariant.stored c.mark.ensures.marked
          ∙ ap (λ (spans : List Span). with_accesses (state c.args.tx.now) (store_access c.args.block spans c.args.bytes.now ∷ [])) (sym (take_more c.args.spans.now c.loop-span.span-index (record { off = 0; len = 0 }) c.loop-span-test.true));
      device = c.mark.ensures.device ∙ c.loop-span.invariant.device;
    }
