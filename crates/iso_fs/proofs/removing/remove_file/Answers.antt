use Rattle.iso_fs.proofs.{Words.{refl, arith, map_mark, bytes_in, del_program, remove_writes, with_dropped}, Finding.del_has, Parts.{map_read, map_stops, part_done, store_done, store_stops, tree_stops, tree_wrote}}

pub returns-in-Err : Rattle.iso_fs.proofs.removing.remove_file.Goals.returns-in-Err
returns-in-Err g c = map_stops c.args.name.now.areas.files (with_dropped c.args.name.now.areas c.args.name.now.bytes.now c.args.file.now.number c.args.file.now.bytes.now) c.in-Err.ensures.kept (omega arith) c.in-Err.ensures.cause c.in-Err.ensures.later

pub returns-in-Err-remove_name : Rattle.iso_fs.proofs.removing.remove_file.Goals.returns-in-Err-remove_name
returns-in-Err-remove_name g c =
    map_read c.args.name.now.areas.files (with_dropped c.args.name.now.areas c.args.name.now.bytes.now c.args.file.now.number c.args.file.now.bytes.now) c.look.new.into c.map_mark.ensures c.in_default.ensures.bytes (g.met.T.TxBlocks.limits c.look.new.tx) c.in_default.ensures.read c.in_default.ensures.later c.in_default.ensures.passed
    (tree_stops (del_program c.args.name.now.areas.tree c.args.name.now.bytes.now) (remove_writes c.args.name.now.areas.files c.args.file.now.number c.args.file.now.bytes.now (bytes_in (map_mark c.args.name.now.areas.files.blocks) c.look.new.into)) (del_has c.args.name.now.areas.tree c.args.name.now.bytes.now c.args.name.now.good)
    c.in-Err-remove_name.ensures.ended c.in-Err-remove_name.ensures.unwritten (omega arith) c.in-Err-remove_name.ensures.leaves.cause c.in-Err-remove_name.ensures.leaves.later)

pub returns-in-Err-store_left : Rattle.iso_fs.proofs.removing.remove_file.Goals.returns-in-Err-store_left
returns-in-Err-store_left g c =
    map_read c.args.name.now.areas.files (with_dropped c.args.name.now.areas c.args.name.now.bytes.now c.args.file.now.number c.args.file.now.bytes.now) c.look.new.into c.map_mark.ensures c.in_default.ensures.bytes (g.met.T.TxBlocks.limits c.look.new.tx) c.in_default.ensures.read c.in_default.ensures.later c.in_default.ensures.passed
    (tree_wrote (del_program c.args.name.now.areas.tree c.args.name.now.bytes.now) (remove_writes c.args.name.now.areas.files c.args.file.now.number c.args.file.now.bytes.now (bytes_in (map_mark c.args.name.now.areas.files.blocks) c.look.new.into)) c.in_default-remove_name.ensures.ended c.in_default-remove_name.ensures.leaves.later c.in_default-remove_name.ensures.leaves.passed refl
    (store_stops c.in-Err-store_left.ensures.kept (omega arith) c.in-Err-store_left.ensures.cause c.in-Err-store_left.ensures.device))

pub returns-in-Ok : Rattle.iso_fs.proofs.removing.remove_file.Goals.returns-in-Ok
returns-in-Ok g c =
    map_read c.args.name.now.areas.files (with_dropped c.args.name.now.areas c.args.name.now.bytes.now c.args.file.now.number c.args.file.now.bytes.now) c.look.new.into c.map_mark.ensures c.in_default.ensures.bytes (g.met.T.TxBlocks.limits c.look.new.tx) c.in_default.ensures.read c.in_default.ensures.later c.in_default.ensures.passed
    (tree_wrote (del_program c.args.name.now.areas.tree c.args.name.now.bytes.now) (remove_writes c.args.name.now.areas.files c.args.file.now.number c.args.file.now.bytes.now (bytes_in (map_mark c.args.name.now.areas.files.blocks) c.look.new.into)) c.in_default-remove_name.ensures.ended c.in_default-remove_name.ensures.leaves.later c.in_default-remove_name.ensures.leaves.passed tt
    (store_done (g.met.T.TxBlocks.limits c.store_left.new.tx) (rw c.requires.area at c.in-Ok.ensures.stored) c.in-Ok.ensures.device tt part_done))
