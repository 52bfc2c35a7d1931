use Rattle.iso_fs.proofs.{Words.{arith, false, write_to}, Files.file_parts, Finding.{found_part, found_stops}, Parts.{part_as, part_done}, WriteSteps.{many_is, write_as}}

pub data_count-requires-clause-small : Rattle.iso_fs.proofs.writing.write_with.Goals.data_count-requires-clause-small
data_count-requires-clause-small g c = grind (arith, file_parts) steps 100000

pub returns-in-Ok-Some : Rattle.iso_fs.proofs.writing.write_with.Goals.returns-in-Ok-Some
returns-in-Ok-Some g c = part_as (write_as c.args.name.now.areas c.args.name.now.bytes.now c.args.patch.now.off c.args.patch.now.bytes.now c.args.name.now.good (many_is c.args.patch.now.bytes.now c.args.patch.now.some c.args.patch.now.few)) (found_part c.args.name.now.areas c.args.name.now.bytes.now false (write_to c.args.name.now.areas.files c.args.patch.now.off c.args.patch.now.bytes.now) c.in-Ok-Some.ensures.part c.find.ensures.reads (rw c.in-Ok-Some.field-0-is c.write_to.ensures))

pub returns-in-Ok-None : Rattle.iso_fs.proofs.writing.write_with.Goals.returns-in-Ok-None
returns-in-Ok-None g c = part_as (write_as c.args.name.now.areas c.args.name.now.bytes.now c.args.patch.now.off c.args.patch.now.bytes.now c.args.name.now.good (many_is c.args.patch.now.bytes.now c.args.patch.now.some c.args.patch.now.few)) (found_part c.args.name.now.areas c.args.name.now.bytes.now false (write_to c.args.name.now.areas.files c.args.patch.now.off c.args.patch.now.bytes.now) c.in-Ok-None.ensures.part c.find.ensures.reads (rw c.in-Ok-None.field-0-is part_done))

pub returns-in-Err : Rattle.iso_fs.proofs.writing.write_with.Goals.returns-in-Err
returns-in-Err g c = part_as (write_as c.args.name.now.areas c.args.name.now.bytes.now c.args.patch.now.off c.args.patch.now.bytes.now c.args.name.now.good (many_is c.args.patch.now.bytes.now c.args.patch.now.some c.args.patch.now.few)) (found_stops c.args.name.now.areas c.args.name.now.bytes.now false (write_to c.args.name.now.areas.files c.args.patch.now.off c.args.patch.now.bytes.now) c.in-Err.ensures.part)
