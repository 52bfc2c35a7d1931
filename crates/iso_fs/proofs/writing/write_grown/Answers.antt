use Rattle.iso_fs.proofs.{Words.{arith, refl}, Parts.{part_as, store_done, store_stops}, WriteSteps.{as_grown, covered_by}}

pub returns-in-Err : Rattle.iso_fs.proofs.writing.write_grown.Goals.returns-in-Err
returns-in-Err g c = record {
  part = part_as (as_grown c.args.writing.now.file.area c.args.writing.now.off c.args.writing.now.file.number c.args.writing.now.bytes.now c.args.writing.now.file.bytes.now c.args.news.now c.args.writing.now.file.count c.lay_sized.new.into c.args.writing.now.file.counted c.lay_sized.ensures c.requires.grows.grows) (store_stops c.in-Err.ensures.kept (omega arith) c.in-Err.ensures.cause c.in-Err.ensures.device);
  of_tx = refl;
}

pub write_pieces-requires-clause-covered : Rattle.iso_fs.proofs.writing.write_grown.Goals.write_pieces-requires-clause-covered
write_pieces-requires-clause-covered g c = grind (arith, covered_by) steps 100000

pub returns : Rattle.iso_fs.proofs.writing.write_grown.Goals.returns
returns g c = record {
  part = part_as (as_grown c.args.writing.now.file.area c.args.writing.now.off c.args.writing.now.file.number c.args.writing.now.bytes.now c.args.writing.now.file.bytes.now c.args.news.now c.args.writing.now.file.count c.lay_sized.new.into c.args.writing.now.file.counted c.lay_sized.ensures c.requires.grows.grows)
      (store_done (g.met.T.TxBlocks.limits c.store.new.tx) c.in_default.ensures.stored c.in_default.ensures.device c.write_pieces.ensures.of_tx c.write_pieces.ensures.part);
  of_tx = c.write_pieces.ensures.of_tx;
}
