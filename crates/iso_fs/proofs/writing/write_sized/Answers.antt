use Rattle.iso_fs.proofs.{Words.{◌+◌, ◌≤◌, [], refl, arith, length, bytes_of}, Parts.part_as, WriteSteps.{as_kept, covered_old}}

pub write_pieces-requires-clause-covered : Rattle.iso_fs.proofs.writing.write_sized.Goals.write_pieces-requires-clause-covered
write_pieces-requires-clause-covered g c = grind (arith, covered_old) steps 100000

pub returns : Rattle.iso_fs.proofs.writing.write_sized.Goals.returns
returns g c =
    let past : c.args.writing.now.off + length c.args.writing.now.bytes.now ≤ bytes_of c.args.writing.now.file.bytes.now = omega (arith, c.if-bytes_of-end.false, c.bytes_of.ensures) in
    record {
      part = part_as (as_kept c.args.writing.now.file.area c.args.writing.now.off c.args.writing.now.file.number c.args.writing.now.bytes.now c.args.writing.now.file.bytes.now [] c.args.writing.now.file.count c.args.writing.now.file.counted past refl) c.write_pieces.ensures.part;
      of_tx = c.write_pieces.ensures.of_tx;
    }
