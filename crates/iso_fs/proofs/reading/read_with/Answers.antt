use Rattle.iso_fs.proofs.{Words.{arith, None, bytes_of, read_from, read_join}, Files.file_parts, Finding.{found_part, found_stops}, Parts.{part_as, part_done, part_refused}, ReadSteps.{least_as, range_bad, range_is, read_as}}
use Rattle.store_model.specs.declared.files.FsError.TheVariants as fs
use Rattle.iso_fs.proofs.reading.read_with.Goals as goal

pub data_count-requires-clause-small : goal.data_count-requires-clause-small
data_count-requires-clause-small g c = grind (arith, file_parts) steps 100000

pub returns-in-Ok-None : goal.returns-in-Ok-None
returns-in-Ok-None g c =
    let a = c.args.name.now.areas in
    let name = c.args.name.now.bytes.now in
    let range = c.args.range.now in
    record {
      part = part_as (read_as a name range.off range.len c.args.name.now.good range.many) (found_part a name None (read_from a.files range.off range.len) c.in-Ok-None.ensures.part c.find.ensures.reads (rw c.in-Ok-None.field-0-is part_done));
      reads = c.find.ensures.reads;
    }

pub returns-in-Err : goal.returns-in-Err
returns-in-Err g c =
    let a = c.args.name.now.areas in
    let name = c.args.name.now.bytes.now in
    let range = c.args.range.now in
    record {
      part = part_as (read_as a name range.off range.len c.args.name.now.good range.many) (found_stops a name None (read_from a.files range.off range.len) c.in-Err.ensures.part);
      reads = c.find.ensures.reads;
    }

pub returns-then-bytes-range : goal.returns-then-bytes-range
returns-then-bytes-range g c =
    let a = c.args.name.now.areas in
    let name = c.args.name.now.bytes.now in
    let range = c.args.range.now in
    record {
      part = part_as (read_as a name range.off range.len c.args.name.now.good range.many) (found_part a name None (read_from a.files range.off range.len) c.in-Ok-Some.ensures.part c.find.ensures.reads
          (rw c.in-Ok-Some.field-0-is (part_as (range_bad a.files range.off range.len c.in-Ok-Some.number c.find.new.file (omega (arith, c.bytes_of-bytes.ensures, c.if-bytes-range.true))) (part_refused fs.BadRange (λ x. cc) tt))));
      reads = c.find.ensures.reads;
    }

pub returns : goal.returns
returns g c =
    let a = c.args.name.now.areas in
    let name = c.args.name.now.bytes.now in
    let range = c.args.range.now in
    record {
      part = part_as (read_as a name range.off range.len c.args.name.now.good range.many) (found_part a name None (read_from a.files range.off range.len) c.in-Ok-Some.ensures.part c.find.ensures.reads
          (rw c.in-Ok-Some.field-0-is (part_as
          (range_is a.files range.off range.len c.in-Ok-Some.number c.find.new.file _ (omega (arith, c.bytes_of-bytes.ensures, c.if-bytes-range.false))
          (least_as range.off range.len (bytes_of c.find.new.file) _ (omega (arith, c.bytes_of-bytes.ensures, c.if-bytes-range.false)) (omega (arith, c.bytes_of-bytes.ensures, c.min.ensures))))
          (rw c.requires.room at c.read_pieces.ensures.part))));
      reads = read_join _ _ _ c.find.ensures.reads c.read_pieces.ensures.reads;
    }
