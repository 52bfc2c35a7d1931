use Rattle.iso_fs.proofs.{Words.{◌∙◌, ◌+◌, ℕ, List, [], ◌∷◌, get_or, bit_place, ap, arith, sym, refl, empty_writes, file_block, put_program, store_access, with_accesses}, CreateSteps.naming, Finding.put_has, Parts.{part_as, part_done, put_stops, store_done, store_stops, tree_wrote}}

pub returns-in-Err : Rattle.iso_fs.proofs.making.name_file.Goals.returns-in-Err
returns-in-Err g c =
    part_as (ap (naming c.args.name.now.areas c.args.name.now.bytes.now c.args.block (get_or c.args.buffer.now (bit_place c.args.block) 0)) (sym c.to_be_bytes-number.ensures))
    (put_stops (put_program c.args.name.now.areas.tree c.args.name.now.bytes.now c.to_be_bytes-number.result) (λ put. empty_writes c.args.name.now.areas c.args.block (get_or c.args.buffer.now (bit_place c.args.block) 0)) (λ memory. put_has c.args.name.now.areas.tree c.args.name.now.bytes.now c.to_be_bytes-number.result c.args.name.now.good (rw c.to_be_bytes-number.ensures refl)) c.in-Err.ensures.ended c.in-Err.ensures.unwritten c.in-Err.ensures.leaves.cause c.in-Err.ensures.leaves.later)

pub returns-in-Err-store_bit : Rattle.iso_fs.proofs.making.name_file.Goals.returns-in-Err-store_bit
returns-in-Err-store_bit g c =
    part_as (ap (naming c.args.name.now.areas c.args.name.now.bytes.now c.args.block (get_or c.args.buffer.now (bit_place c.args.block) 0)) (sym c.to_be_bytes-number.ensures))
    (tree_wrote (put_program c.args.name.now.areas.tree c.args.name.now.bytes.now c.to_be_bytes-number.result) (λ put. empty_writes c.args.name.now.areas c.args.block (get_or c.args.buffer.now (bit_place c.args.block) 0)) c.in_default.ensures.ended c.in_default.ensures.leaves.later c.in_default.ensures.leaves.passed refl
    (store_stops c.in-Err-store_bit.ensures.stored.kept (omega arith) c.in-Err-store_bit.ensures.stored.cause c.in-Err-store_bit.ensures.stored.device))

pub returns-in-Err-store : Rattle.iso_fs.proofs.making.name_file.Goals.returns-in-Err-store
returns-in-Err-store g c =
    part_as (ap (naming c.args.name.now.areas c.args.name.now.bytes.now c.args.block (get_or c.args.buffer.now (bit_place c.args.block) 0)) (sym c.to_be_bytes-number.ensures))
    (tree_wrote (put_program c.args.name.now.areas.tree c.args.name.now.bytes.now c.to_be_bytes-number.result) (λ put. empty_writes c.args.name.now.areas c.args.block (get_or c.args.buffer.now (bit_place c.args.block) 0)) c.in_default.ensures.ended c.in_default.ensures.leaves.later c.in_default.ensures.leaves.passed refl
    (store_done (g.met.T.TxBlocks.limits c.store_bit.new.tx) c.in_default-store_bit.ensures.stored.stored c.in_default-store_bit.ensures.stored.device refl
    (store_stops c.in-Err-store.ensures.kept (omega arith) c.in-Err-store.ensures.cause c.in-Err-store.ensures.device)))

pub returns-in-Ok : Rattle.iso_fs.proofs.making.name_file.Goals.returns-in-Ok
returns-in-Ok g c =
    part_as (ap (naming c.args.name.now.areas c.args.name.now.bytes.now c.args.block (get_or c.args.buffer.now (bit_place c.args.block) 0)) (sym c.to_be_bytes-number.ensures))
    (tree_wrote (put_program c.args.name.now.areas.tree c.args.name.now.bytes.now c.to_be_bytes-number.result) (λ put. empty_writes c.args.name.now.areas c.args.block (get_or c.args.buffer.now (bit_place c.args.block) 0)) c.in_default.ensures.ended c.in_default.ensures.leaves.later c.in_default.ensures.leaves.passed tt
    (store_done (g.met.T.TxBlocks.limits c.store_bit.new.tx) c.in_default-store_bit.ensures.stored.stored c.in_default-store_bit.ensures.stored.device tt
    (store_done (g.met.T.TxBlocks.limits c.store.new.tx)
    (c.in-Ok.ensures.stored ∙ ap (λ (bytes : List ℕ). with_accesses (g.T.TxBlocks.state c.store_bit.new.tx) (store_access (c.args.name.now.areas.files.start + c.args.block) [] bytes ∷ [])) (c.start_file.ensures ∙ ap (λ (n : ℕ). file_block n 0 []) c.store_bit.ensures.length))
    c.in-Ok.ensures.device tt part_done)))
