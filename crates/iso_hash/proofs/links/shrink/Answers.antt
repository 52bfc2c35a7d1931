use Rattle.iso_hash.proofs.{Words.{get_or, ◌∙◌, ap, ◌+◌, [], ◌∷◌, Ok, true, replicate, arith, next_mark, block_with, bit_mark, bit_place, Done, Tx, cut_at_store, refused_memory, done_so}, Storing.{cleared, unlinked, shrinking, shrink_at_first, shrink_at_second, reserve_refused, room_less}}
use Rattle.std.proofs.{Common.rules, lemmas.Grind.common_steps}
use Rattle.iso_hash.proofs.links.shrink.Goals as goal

pub returns-in-Err : goal.returns-in-Err
returns-in-Err g c = record {
  run = (reserve_refused 2 (cleared c.args.area c.args.block c.args.before (get_or c.args.buffer.now (bit_place c.args.block) 0)) (g.T.TxBlocks.state c.args.tx.now) (g.T.TxBlocks.device c.args.tx.now) c.in-Err.e (omega arith) c.in-Err.ensures.err).0;
  behaves = (reserve_refused 2 (cleared c.args.area c.args.block c.args.before (get_or c.args.buffer.now (bit_place c.args.block) 0)) (g.T.TxBlocks.state c.args.tx.now) (g.T.TxBlocks.device c.args.tx.now) c.in-Err.e (omega arith) c.in-Err.ensures.err).1;
}

pub returns-in-Err-store_bit : goal.returns-in-Err-store_bit
returns-in-Err-store_bit g c = record {
  run = (let state = g.T.TxBlocks.state in
      let a = c.args.area in
      cut_at_store (shrinking a c.args.block c.args.before (get_or c.args.buffer.now (bit_place c.args.block) 0)) a.start (bit_mark c.args.block ∷ []) (block_with a.size (bit_place c.args.block) ((get_or c.args.buffer.now (bit_place c.args.block) 0) ∷ [])) (unlinked a c.args.before)
      (state c.args.tx.now) (state c.args.tx.now) (state c.store_bit.new.tx) (g.T.TxBlocks.device c.args.tx.now) (g.T.TxBlocks.device c.store_bit.new.tx) c.in-Err-store_bit.e
      (shrink_at_first a c.args.block c.args.before (get_or c.args.buffer.now (bit_place c.args.block) 0) (state c.args.tx.now) c.in_default.ensures.ok) c.in-Err-store_bit.ensures.stored.kept c.in-Err-store_bit.ensures.stored.cause);
  behaves = grind (arith, refused_memory);
}

pub returns-in-Err-store : goal.returns-in-Err-store
returns-in-Err-store g c = record {
  run = (let state = g.T.TxBlocks.state in
      let a = c.args.area in
      cut_at_store (shrinking a c.args.block c.args.before (get_or c.args.buffer.now (bit_place c.args.block) 0)) (a.start + c.args.before) (next_mark ∷ []) (replicate a.size 0) (Done (Ok true))
      (state c.args.tx.now) (state c.store_bit.new.tx) (state c.store.new.tx) (g.T.TxBlocks.device c.store_bit.new.tx) (g.T.TxBlocks.device c.store.new.tx) c.in-Err-store.e
      (shrink_at_second a c.args.block c.args.before (get_or c.args.buffer.now (bit_place c.args.block) 0) (state c.args.tx.now) c.in_default.ensures.ok (state c.store_bit.new.tx) (g.met.T.TxBlocks.limits c.store_bit.new.tx) c.in_default-store_bit.ensures.stored.stored)
      c.in-Err-store.ensures.kept c.in-Err-store.ensures.cause);
  behaves = (let state = g.T.TxBlocks.state in
      let less = room_less 1 (state c.args.tx.now) (state c.store_bit.new.tx) _ c.in_default.ensures.ok c.in_default-store_bit.ensures.stored.stored in
      refused_memory _ _ _ _ _ _ (omega arith) (c.in-Err-store.ensures.room (omega (arith, less)) (ap (λ (t : Tx). t.is_open) c.in_default-store_bit.ensures.stored.stored ∙ c.requires.is_open)) (c.in-Err-store.ensures.device ∙ c.in_default-store_bit.ensures.stored.device));
}

pub returns-in-Ok : goal.returns-in-Ok
returns-in-Ok g c = record {
  run = first_of (search rules, grind (arith, common_steps));
  behaves = grind (arith, done_so);
}
