use Rattle.iso_hash.proofs.{Words.{◌≡◌, length, with_accesses, store_access, get_or, ◌∙◌, ap, ◌+◌, [], ◌∷◌, Ok, arith, w32, to_be_bytes, next_mark, block_with, bit_mark, bit_place, new_block, bucket_of, Done, Tx, at_store, ran_at, cut_at_store, refused_memory, done_so}, Storing.{first, second, third, growing, grow_at_first, grow_at_second, grow_at_third, reserve_refused, room_less}}
use Rattle.iso_hash.proofs.links.grow.Goals as goal

pub returns-in-Err : goal.returns-in-Err
returns-in-Err g c = record {
  run = (reserve_refused 3 (first c.args.key.now.area c.args.block c.args.last c.args.position (get_or c.args.buffer.now (bit_place c.args.block) 0) c.args.key.now.bytes.now c.args.value.now) (g.T.TxBlocks.state c.args.tx.now) (g.T.TxBlocks.device c.args.tx.now) c.in-Err.e (omega arith) c.in-Err.ensures.err).0;
  behaves = (reserve_refused 3 (first c.args.key.now.area c.args.block c.args.last c.args.position (get_or c.args.buffer.now (bit_place c.args.block) 0) c.args.key.now.bytes.now c.args.value.now) (g.T.TxBlocks.state c.args.tx.now) (g.T.TxBlocks.device c.args.tx.now) c.in-Err.e (omega arith) c.in-Err.ensures.err).1;
}

pub returns-in-Err-store_bit : goal.returns-in-Err-store_bit
returns-in-Err-store_bit g c = record {
  run = (let state = g.T.TxBlocks.state in
      let a = c.args.key.now.area in
      cut_at_store (growing a c.args.block c.args.last c.args.position (get_or c.args.buffer.now (bit_place c.args.block) 0) c.args.key.now.bytes.now c.args.value.now) a.start (bit_mark c.args.block ∷ []) (block_with a.size (bit_place c.args.block) ((get_or c.args.buffer.now (bit_place c.args.block) 0) ∷ [])) (second a c.args.block c.args.last c.args.position c.args.key.now.bytes.now c.args.value.now)
      (state c.args.tx.now) (state c.args.tx.now) (state c.store_bit.new.tx) (g.T.TxBlocks.device c.args.tx.now) (g.T.TxBlocks.device c.store_bit.new.tx) c.in-Err-store_bit.e
      (grow_at_first a c.args.block c.args.last c.args.position (get_or c.args.buffer.now (bit_place c.args.block) 0) c.args.key.now.bytes.now c.args.value.now (state c.args.tx.now) c.in_default.ensures.ok) c.in-Err-store_bit.ensures.stored.kept c.in-Err-store_bit.ensures.stored.cause);
  behaves = grind (arith, refused_memory);
}

pub returns-in-Err-store_new : goal.returns-in-Err-store_new
returns-in-Err-store_new g c = record {
  run = (let state = g.T.TxBlocks.state in
      let a = c.args.key.now.area in
      cut_at_store (growing a c.args.block c.args.last c.args.position (get_or c.args.buffer.now (bit_place c.args.block) 0) c.args.key.now.bytes.now c.args.value.now) (a.start + c.args.block) [] (new_block a.size (bucket_of a c.args.key.now.bytes.now) c.args.position c.args.key.now.bytes.now c.args.value.now) (third a c.args.block c.args.last)
      (state c.args.tx.now) (state c.store_bit.new.tx) (state c.store_new.new.tx) (g.T.TxBlocks.device c.store_bit.new.tx) (g.T.TxBlocks.device c.store_new.new.tx) c.in-Err-store_new.e
      (grow_at_second a c.args.block c.args.last c.args.position (get_or c.args.buffer.now (bit_place c.args.block) 0) c.args.key.now.bytes.now c.args.value.now (state c.args.tx.now) c.in_default.ensures.ok (state c.store_bit.new.tx) (g.met.T.TxBlocks.limits c.store_bit.new.tx) c.in_default-store_bit.ensures.stored.stored)
      c.in-Err-store_new.ensures.kept c.in-Err-store_new.ensures.cause);
  behaves = (let state = g.T.TxBlocks.state in
      let less = room_less 2 (state c.args.tx.now) (state c.store_bit.new.tx) _ c.in_default.ensures.ok c.in_default-store_bit.ensures.stored.stored in
      refused_memory _ _ _ _ _ _ (omega arith) (c.in-Err-store_new.ensures.room (omega (arith, less)) (ap (λ (t : Tx). t.is_open) c.in_default-store_bit.ensures.stored.stored ∙ c.requires.is_open)) (c.in-Err-store_new.ensures.device ∙ c.in_default-store_bit.ensures.stored.device));
}

pub returns-in-Err-store : goal.returns-in-Err-store
returns-in-Err-store g c = record {
  run = (let state = g.T.TxBlocks.state in
      let a = c.args.key.now.area in
      cut_at_store (growing a c.args.block c.args.last c.args.position (get_or c.args.buffer.now (bit_place c.args.block) 0) c.args.key.now.bytes.now c.args.value.now) (a.start + c.args.last) (next_mark ∷ []) (block_with a.size 0 (to_be_bytes w32 c.args.block)) (Done (Ok tt))
      (state c.args.tx.now) (state c.store_new.new.tx) (state c.store.new.tx) (g.T.TxBlocks.device c.store_new.new.tx) (g.T.TxBlocks.device c.store.new.tx) c.in-Err-store.e
      (grow_at_third a c.args.block c.args.last c.args.position (get_or c.args.buffer.now (bit_place c.args.block) 0) c.args.key.now.bytes.now c.args.value.now (state c.args.tx.now) c.in_default.ensures.ok (state c.store_bit.new.tx) (state c.store_new.new.tx)
      (g.met.T.TxBlocks.limits c.store_bit.new.tx) (g.met.T.TxBlocks.limits c.store_new.new.tx) c.in_default-store_bit.ensures.stored.stored c.in_default-store_new.ensures.stored)
      c.in-Err-store.ensures.kept c.in-Err-store.ensures.cause);
  behaves = (let state = g.T.TxBlocks.state in
      let less = room_less 2 (state c.args.tx.now) (state c.store_bit.new.tx) _ c.in_default.ensures.ok c.in_default-store_bit.ensures.stored.stored in
      let few = room_less 1 (state c.store_bit.new.tx) (state c.store_new.new.tx) _ less c.in_default-store_new.ensures.stored in
      grind (arith, refused_memory));
}

pub returns-in-Ok : goal.returns-in-Ok
returns-in-Ok g c = record {
  run = (let state = g.T.TxBlocks.state in
      let a = c.args.key.now.area in
      let long : length c.store_new.new.buffer ≡ a.size = c.store_new.auto.buffer ∙ c.store_bit.ensures.length in
      let whole = growing a c.args.block c.args.last c.args.position (get_or c.args.buffer.now (bit_place c.args.block) 0) c.args.key.now.bytes.now c.args.value.now in
      ran_at whole (state c.args.tx.now) (state c.store.new.tx) (Ok tt)
      (at_store whole (a.start + c.args.last) (next_mark ∷ []) (block_with a.size 0 (to_be_bytes w32 c.args.block)) (Done (Ok tt)) (state c.args.tx.now) (state c.store_new.new.tx) (state c.store.new.tx)
      (grow_at_third a c.args.block c.args.last c.args.position (get_or c.args.buffer.now (bit_place c.args.block) 0) c.args.key.now.bytes.now c.args.value.now (state c.args.tx.now) c.in_default.ensures.ok (state c.store_bit.new.tx) (state c.store_new.new.tx)
      (g.met.T.TxBlocks.limits c.store_bit.new.tx) (g.met.T.TxBlocks.limits c.store_new.new.tx) c.in_default-store_bit.ensures.stored.stored c.in_default-store_new.ensures.stored)
      (g.met.T.TxBlocks.limits c.store.new.tx).count
      (c.in-Ok.ensures.stored ∙ (λ i. with_accesses (state c.store_new.new.tx) (store_access (a.start + c.args.last) (next_mark ∷ []) ((c.lay_alone.ensures ∙ (λ j. block_with (long j) 0 (c.spelled.ensures j))) i) ∷ [])))));
  behaves = grind (arith, done_so);
}
