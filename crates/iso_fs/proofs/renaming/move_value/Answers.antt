use Rattle.iso_fs.proofs.{Words.{sym, ◌∙◌, arith, Done, Ok, true, del_program, drop_name, get_program, put_program, rename_free}, Finding.{del_has, get_has, put_has}, Parts.{part_done, part_refused, put_stops, tree_read, tree_stops, tree_wrote}, RenameSteps.{memory_value, tree_follows}}
use Rattle.store_model.specs.declared.files.FsError.TheVariants as fs
use Rattle.iso_fs.proofs.renaming.move_value.Goals as goal

pub returns-in-Ok-Some : goal.returns-in-Ok-Some
returns-in-Ok-Some g c =
    tree_read (get_program c.args.old.now.areas.tree c.args.new.now) (rename_free c.args.old.now.areas c.args.old.now.bytes.now c.args.new.now c.args.value.now) c.in-Ok-Some.ensures.ended c.value_of.ensures.reads c.value_of.ensures.leaves.later c.in-Ok-Some.ensures.leaves.passed (rw c.in-Ok-Some.field-0-is (part_refused fs.Exists (λ x. cc) tt))

pub returns-in-Err : goal.returns-in-Err
returns-in-Err g c =
    tree_stops (get_program c.args.old.now.areas.tree c.args.new.now) (rename_free c.args.old.now.areas c.args.old.now.bytes.now c.args.new.now c.args.value.now) (get_has c.args.old.now.areas.tree c.args.new.now c.requires.new) c.in-Err.ensures.ended c.value_of.ensures.reads (omega arith) c.in-Err.ensures.leaves.cause c.value_of.ensures.leaves.later

pub returns-in-Err-put_value : goal.returns-in-Err-put_value
returns-in-Err-put_value g c =
    tree_read (get_program c.args.old.now.areas.tree c.args.new.now) (rename_free c.args.old.now.areas c.args.old.now.bytes.now c.args.new.now c.args.value.now) c.in-Ok-None.ensures.ended c.value_of.ensures.reads c.value_of.ensures.leaves.later c.in-Ok-None.ensures.leaves.passed
    (rw c.in-Ok-None.field-0-is (put_stops (put_program c.args.old.now.areas.tree c.args.new.now c.args.value.now) (λ put. drop_name c.args.old.now.areas c.args.old.now.bytes.now) (λ memory. put_has c.args.old.now.areas.tree c.args.new.now c.args.value.now c.requires.new (c.in-Err-put_value.ensures.value c.requires.new (λ bad. memory_value (sym memory ∙ bad))))
    c.in-Err-put_value.ensures.ended c.in-Err-put_value.ensures.unwritten c.in-Err-put_value.ensures.leaves.cause c.in-Err-put_value.ensures.leaves.later))

pub returns-in-Err-remove_name : goal.returns-in-Err-remove_name
returns-in-Err-remove_name g c =
    tree_read (get_program c.args.old.now.areas.tree c.args.new.now) (rename_free c.args.old.now.areas c.args.old.now.bytes.now c.args.new.now c.args.value.now) c.in-Ok-None.ensures.ended c.value_of.ensures.reads c.value_of.ensures.leaves.later c.in-Ok-None.ensures.leaves.passed
    (rw c.in-Ok-None.field-0-is (tree_wrote (put_program c.args.old.now.areas.tree c.args.new.now c.args.value.now) (λ put. drop_name c.args.old.now.areas c.args.old.now.bytes.now) c.in_default.ensures.ended c.in_default.ensures.leaves.later c.in_default.ensures.leaves.passed (tree_follows c.in-Err-remove_name.e (c.in-Err-remove_name.ensures.known c.args.old.now.good))
    (tree_stops (del_program c.args.old.now.areas.tree c.args.old.now.bytes.now) (λ there. Done (Ok true)) (del_has c.args.old.now.areas.tree c.args.old.now.bytes.now c.args.old.now.good) c.in-Err-remove_name.ensures.ended c.in-Err-remove_name.ensures.unwritten (omega arith) c.in-Err-remove_name.ensures.leaves.cause c.in-Err-remove_name.ensures.leaves.later)))

pub returns-in-Ok : goal.returns-in-Ok
returns-in-Ok g c =
    tree_read (get_program c.args.old.now.areas.tree c.args.new.now) (rename_free c.args.old.now.areas c.args.old.now.bytes.now c.args.new.now c.args.value.now) c.in-Ok-None.ensures.ended c.value_of.ensures.reads c.value_of.ensures.leaves.later c.in-Ok-None.ensures.leaves.passed
    (rw c.in-Ok-None.field-0-is (tree_wrote (put_program c.args.old.now.areas.tree c.args.new.now c.args.value.now) (λ put. drop_name c.args.old.now.areas c.args.old.now.bytes.now) c.in_default.ensures.ended c.in_default.ensures.leaves.later c.in_default.ensures.leaves.passed tt
    (tree_wrote (del_program c.args.old.now.areas.tree c.args.old.now.bytes.now) (λ there. Done (Ok true)) c.in-Ok.ensures.ended c.in-Ok.ensures.leaves.later c.in-Ok.ensures.leaves.passed tt part_done)))
