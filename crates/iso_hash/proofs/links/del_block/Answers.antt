use Rattle.iso_hash.proofs.{Words.{◌∙◌, refl, arith, cut_first, looked_as, read_one, behaves_next, refused_first}, Storing.{given_back}}

pub returns-in-Err : Rattle.iso_hash.proofs.links.del_block.Goals.returns-in-Err
returns-in-Err g c = record {
  run = grind (arith, cut_first);
  behaves = refused_first c.in-Err.e c.in-Err.ensures.kept c.in-Err.ensures.cause c.in-Err.ensures.later (omega arith);
}

pub returns : Rattle.iso_hash.proofs.links.del_block.Goals.returns
returns g c = record {
  run = (let state = g.T.TxBlocks.state in
      let a = c.args.area in
      given_back a (record { block = c.args.block; cell = 0 }) c.args.before _ (state c.args.tx.now) (state c.look.new.tx) (state c.shrink.new.tx) c.look.new.into c.give_back.new.map c.shrink.result
      c.requires.block.within.area c.in_default.ensures.bytes (g.met.T.TxBlocks.limits c.look.new.tx) (looked_as (state c.args.tx.now) (state c.look.new.tx) a.start _ _ c.in_default.ensures.read c.map_span.ensures) c.requires.block.inside (c.look.auto.into ∙ c.requires.block.long) c.give_back.ensures.given refl c.shrink.ensures.run);
  behaves = behaves_next (read_one (g.T.TxBlocks.state c.args.tx.now) (g.T.TxBlocks.state c.look.new.tx) _ c.in_default.ensures.read refl) c.in_default.ensures.later c.in_default.ensures.passed c.shrink.ensures.behaves (omega arith);
}
