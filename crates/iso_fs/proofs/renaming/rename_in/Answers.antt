use Rattle.iso_fs.proofs.{Words.{arith, get_program, rename_found}, Finding.get_has, Parts.{part_as, part_done, tree_read, tree_stops}, RenameSteps.rename_as}

pub returns-in-Ok-Some : Rattle.iso_fs.proofs.renaming.rename_in.Goals.returns-in-Ok-Some
returns-in-Ok-Some g c =
    part_as (rename_as c.args.old.now.areas c.args.old.now.bytes.now c.args.new.now c.args.old.now.good c.requires.new)
    (tree_read (get_program c.args.old.now.areas.tree c.args.old.now.bytes.now) (rename_found c.args.old.now.areas c.args.old.now.bytes.now c.args.new.now) c.in-Ok-Some.ensures.ended c.value_of.ensures.reads c.value_of.ensures.leaves.later c.in-Ok-Some.ensures.leaves.passed (rw c.in-Ok-Some.field-0-is (rw c.as_slice.ensures at c.move_value.ensures)))

pub returns-in-Ok-None : Rattle.iso_fs.proofs.renaming.rename_in.Goals.returns-in-Ok-None
returns-in-Ok-None g c =
    part_as (rename_as c.args.old.now.areas c.args.old.now.bytes.now c.args.new.now c.args.old.now.good c.requires.new)
    (tree_read (get_program c.args.old.now.areas.tree c.args.old.now.bytes.now) (rename_found c.args.old.now.areas c.args.old.now.bytes.now c.args.new.now) c.in-Ok-None.ensures.ended c.value_of.ensures.reads c.value_of.ensures.leaves.later c.in-Ok-None.ensures.leaves.passed (rw c.in-Ok-None.field-0-is part_done))

pub returns-in-Err : Rattle.iso_fs.proofs.renaming.rename_in.Goals.returns-in-Err
returns-in-Err g c =
    part_as (rename_as c.args.old.now.areas c.args.old.now.bytes.now c.args.new.now c.args.old.now.good c.requires.new)
    (tree_stops (get_program c.args.old.now.areas.tree c.args.old.now.bytes.now) (rename_found c.args.old.now.areas c.args.old.now.bytes.now c.args.new.now) (get_has c.args.old.now.areas.tree c.args.old.now.bytes.now c.args.old.now.good) c.in-Err.ensures.ended c.value_of.ensures.reads (omega arith) c.in-Err.ensures.leaves.cause c.value_of.ensures.leaves.later)
