use Rattle.tx_blocks.proofs.Words.{◌≡◌, take, [], ◌∷◌, store_access, with_accesses}

-- the write has the spans so far
abbrev pub invariant-loop-span : Rattle.tx_blocks.proofs.steps.store.Given.invariant-loop-span
invariant-loop-span g l = record {
  stored : g.T.TxBlocks.state l.tx ≡ with_accesses (g.T.TxBlocks.state l.fn.tx) (store_access l.block (take l.span-index l.spans) l.bytes ∷ []);
  device : g.T.TxBlocks.device l.tx ≡ g.T.TxBlocks.device l.fn.tx;
}
