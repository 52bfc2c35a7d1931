use Rattle.iso_tree.proofs.{Words.{arith, common_steps, rules, refl, ◌∙◌, sym, ap, word_at, is_head, cut_first}, Looking.{broken_read, head_broken, head_read, ok_read, refused_read}}

pub returns-then-not-is_head : Rattle.iso_tree.proofs.descent.read_head.Goals.returns-then-not-is_head
returns-then-not-is_head g c = record {
  run = head_broken c.args.area (g.T.TxBlocks.state c.args.tx.now) (g.T.TxBlocks.state c.look.new.tx) c.look.new.into (g.met.T.TxBlocks.limits c.look.new.tx).count c.in_default.ensures.bytes c.in_default.ensures.read
      (ap (is_head c.args.area) (sym c.piece-head.ensures.value) ∙ sym c.is_head.ensures ∙ c.if-not-is_head.true);
  inside = tt;
  reads = broken_read _ _ _ _ _ _ c.in_default.ensures.read refl c.in_default.ensures.later c.in_default.ensures.passed;
}

pub returns : Rattle.iso_tree.proofs.descent.read_head.Goals.returns
returns g c = record {
  run = head_read c.args.area (g.T.TxBlocks.state c.args.tx.now) (g.T.TxBlocks.state c.look.new.tx) c.look.new.into (g.met.T.TxBlocks.limits c.look.new.tx).count c.in_default.ensures.bytes c.in_default.ensures.read _ _
      (ap (is_head c.args.area) (sym c.piece-head.ensures.value) ∙ sym c.is_head.ensures ∙ c.if-not-is_head.false)
      (c.word_at.ensures ∙ ap (word_at 0) c.piece-head.ensures.value) (c.word_at-2.ensures ∙ ap (word_at 4) c.piece-head.ensures.value);
  inside = first_of (search rules, grind (arith, common_steps));
  reads = ok_read _ _ _ _ _ _ c.in_default.ensures.read refl c.in_default.ensures.is_open c.in_default.ensures.later c.in_default.ensures.passed;
}

pub returns-in-Err : Rattle.iso_tree.proofs.descent.read_head.Goals.returns-in-Err
returns-in-Err g c = record { run = grind (arith, cut_first); inside = tt; reads = refused_read _ _ _ _ _ c.in-Err.ensures.kept c.in-Err.ensures.cause c.in-Err.ensures.later }
