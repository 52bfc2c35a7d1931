use Rattle.iso_tree.proofs.{Words.{arith, ◌∙◌, ap, ℕ, List, ◌∷◌}, Descending.reads_memory, Scanning.{below_memory, below_run}}

pub returns-in-Ok : Rattle.iso_tree.proofs.range.scan_below.Goals.returns-in-Ok
returns-in-Ok g c = record {
  run = below_run c.args.range.now.area c.args.range.now.from.now c.args.range.now.to.now c.args.range.now.max c.args.root c.args.level (g.T.TxBlocks.state c.args.tx.now) (g.T.TxBlocks.state c.walk.new.tx) c.walk.result c.push.new.self c.if-root-eq0.false c.args.range.now.some
      (c.in-Ok.ensures.ok ∙ ap (λ (nodes : List (ℕ × ℕ)). (c.args.level, c.args.root) ∷ nodes) c.empty-unread.ensures) c.walk.ensures.run;
  reads = c.walk.ensures.reads;
}

pub returns : Rattle.iso_tree.proofs.range.scan_below.Goals.returns
returns g c = record { run = grind (arith, below_memory); reads = reads_memory _ _ _ c.in-Err.ensures.memory }
