use Rattle.iso_fs.proofs.{Words.{◌∙◌, ◌+◌, sym, arith, length, nat_le, bytes_of, most_bytes}, Files.file_parts, Parts.{part_as, part_refused}, WriteCalls.most_is, WriteSteps.{off_bad, range_bad, size_bad}}
use Rattle.store_model.specs.declared.files.FsError.TheVariants as fs

pub returns-then-bytes_of-off : Rattle.iso_fs.proofs.writing.write_to.Goals.returns-then-bytes_of-off
returns-then-bytes_of-off g c =
    part_as (range_bad c.args.file.area c.args.patch.now.off c.args.file.number c.args.patch.now.bytes.now c.args.file.bytes.now
    (off_bad c.args.patch.now.off (bytes_of c.args.file.bytes.now) (nat_le (c.args.patch.now.off + length c.args.patch.now.bytes.now) (most_bytes c.args.file.area.size)) (let past = c.if-bytes_of-off.true in omega (arith, past, c.bytes_of.ensures)))) (part_refused fs.BadRange (λ x. cc) tt)

pub overflow_add-end : Rattle.iso_fs.proofs.writing.write_to.Goals.overflow_add-end
overflow_add-end g c = grind (arith, most_is, file_parts) steps 100000

pub returns-then-not-is_fit : Rattle.iso_fs.proofs.writing.write_to.Goals.returns-then-not-is_fit
returns-then-not-is_fit g c =
    part_as (range_bad c.args.file.area c.args.patch.now.off c.args.file.number c.args.patch.now.bytes.now c.args.file.bytes.now
    (size_bad (nat_le c.args.patch.now.off (bytes_of c.args.file.bytes.now)) (nat_le (c.args.patch.now.off + length c.args.patch.now.bytes.now) (most_bytes c.args.file.area.size)) (sym c.is_fit.ensures ∙ c.if-not-is_fit.true))) (part_refused fs.BadRange (λ x. cc) tt)
