use Rattle.iso_fs.proofs.{Words.{arith, None, read_join, get_program, at_file, found_file}, Finding.get_has, Parts.{part_done, tree_read, tree_stops}}

pub returns-in-Ok-Some : Rattle.iso_fs.proofs.find.find.Goals.returns-in-Ok-Some
returns-in-Ok-Some g c = record {
  part = tree_read (get_program c.args.name.now.areas.tree c.args.name.now.bytes.now) (at_file c.args.name.now.areas None found_file) c.in-Ok-Some.ensures.ended c.value_of.ensures.reads c.value_of.ensures.leaves.later c.in-Ok-Some.ensures.leaves.passed
      (rw c.in-Ok-Some.field-0-is (rw c.as_slice.ensures at c.look_value.ensures.part));
  found = c.look_value.ensures.found;
  reads = read_join _ _ _ c.value_of.ensures.reads c.look_value.ensures.reads;
}

pub returns-in-Ok-None : Rattle.iso_fs.proofs.find.find.Goals.returns-in-Ok-None
returns-in-Ok-None g c = record {
  part = tree_read (get_program c.args.name.now.areas.tree c.args.name.now.bytes.now) (at_file c.args.name.now.areas None found_file) c.in-Ok-None.ensures.ended c.value_of.ensures.reads c.value_of.ensures.leaves.later c.in-Ok-None.ensures.leaves.passed
      (rw c.in-Ok-None.field-0-is part_done);
  found = tt;
  reads = c.value_of.ensures.reads;
}

pub returns-in-Err : Rattle.iso_fs.proofs.find.find.Goals.returns-in-Err
returns-in-Err g c = record {
  part = tree_stops (get_program c.args.name.now.areas.tree c.args.name.now.bytes.now) (at_file c.args.name.now.areas None found_file) (get_has c.args.name.now.areas.tree c.args.name.now.bytes.now c.args.name.now.good) c.in-Err.ensures.ended c.value_of.ensures.reads (omega arith) c.in-Err.ensures.leaves.cause c.value_of.ensures.leaves.later;
  found = tt;
  reads = c.value_of.ensures.reads;
}
