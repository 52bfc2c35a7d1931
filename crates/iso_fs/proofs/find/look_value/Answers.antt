use Rattle.iso_fs.proofs.{Words.{◌∙◌, ◌+◌, sym, refl, read_none}, Finding.{file_broken, file_found, value_bad, value_named}, Parts.{part_as, part_done, part_refused, read_kept, read_one, whole_read, whole_stops}}
use Rattle.store_model.specs.declared.stores.StoreError.TheVariants as store
use Rattle.store_model.specs.declared.files.FsError.TheVariants as fs
use Rattle.iso_fs.proofs.find.look_value.Goals as goal

pub returns-in_default : goal.returns-in_default
returns-in_default g c = record {
  part = part_as (value_bad c.args.a c.args.value.now c.in_default.ensures.none) (part_refused (fs.Store (store.Broken c.args.a.tree.start)) (λ x. cc) tt);
  found = tt;
  reads = read_none (g.T.TxBlocks.state c.args.tx.now);
}

pub returns-in-Err : goal.returns-in-Err
returns-in-Err g c = record {
  part = part_as (value_named c.args.a c.args.value.now c.in-Some.number c.in-Some.ensures.some.1 c.in-Some.ensures.some.0) (whole_stops c.in-Err.ensures.kept c.in-Err.ensures.cause c.in-Err.ensures.later);
  found = tt;
  reads = read_kept c.in-Err.ensures.kept;
}

pub returns-then-not-is_file : goal.returns-then-not-is_file
returns-then-not-is_file g c = record {
  part = part_as (value_named c.args.a c.args.value.now c.in-Some.number c.in-Some.ensures.some.1 c.in-Some.ensures.some.0)
      (whole_read c.look_whole.new.into c.in_default-look_whole.ensures.bytes (g.met.T.TxBlocks.limits c.look_whole.new.tx) c.in_default-look_whole.ensures.read c.in_default-look_whole.ensures.later c.in_default-look_whole.ensures.passed
      (part_as (file_broken c.args.a.files c.in-Some.number c.look_whole.new.into (sym c.is_file.ensures ∙ c.if-not-is_file.true)) (part_refused (fs.Store (store.Broken (c.args.a.files.start + c.in-Some.number))) (λ x. cc) tt)));
  found = tt;
  reads = read_one _ c.in_default-look_whole.ensures.read (refl, tt);
}

pub returns : goal.returns
returns g c = record {
  part = part_as (value_named c.args.a c.args.value.now c.in-Some.number c.in-Some.ensures.some.1 c.in-Some.ensures.some.0)
      (whole_read c.look_whole.new.into c.in_default-look_whole.ensures.bytes (g.met.T.TxBlocks.limits c.look_whole.new.tx) c.in_default-look_whole.ensures.read c.in_default-look_whole.ensures.later c.in_default-look_whole.ensures.passed
      (part_as (file_found c.args.a.files c.in-Some.number c.look_whole.new.into (sym c.is_file.ensures ∙ c.if-not-is_file.false)) part_done));
  found = (c.in-Some.ensures.below, sym c.is_file.ensures ∙ c.if-not-is_file.false);
  reads = read_one _ c.in_default-look_whole.ensures.read (refl, tt);
}
