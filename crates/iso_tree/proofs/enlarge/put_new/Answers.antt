use Rattle.iso_tree.proofs.{Words.{refl, arith, looked_as, read_one, later_same, behaves_next, refused_first}, Enlarging.{map_refused, map_run, shown_still}}
use Rattle.store_model.specs.declared.stores.TxError.TheVariants as error
use Rattle.iso_tree.proofs.enlarge.put_new.Goals as goal

pub returns-in_default : goal.returns-in_default
returns-in_default g c = record {
  run = map_refused c.args.area c.args.entry.now.key.now c.args.entry.now.value.now c.args.path.now (g.T.TxBlocks.state c.args.tx.now) (g.T.TxBlocks.state c.args.tx.now) (g.T.TxBlocks.device c.args.tx.now) (g.T.TxBlocks.device c.args.tx.now) error.Memory refl refl;
  behaves = refused_first error.Memory refl refl (later_same (g.T.TxBlocks.device c.args.tx.now) (g.T.TxBlocks.device c.args.tx.now) refl) (omega arith);
}

pub returns-in_default-buffer : goal.returns-in_default-buffer
returns-in_default-buffer g c = record {
  run = map_refused c.args.area c.args.entry.now.key.now c.args.entry.now.value.now c.args.path.now (g.T.TxBlocks.state c.args.tx.now) (g.T.TxBlocks.state c.args.tx.now) (g.T.TxBlocks.device c.args.tx.now) (g.T.TxBlocks.device c.args.tx.now) error.Memory refl refl;
  behaves = refused_first error.Memory refl refl (later_same (g.T.TxBlocks.device c.args.tx.now) (g.T.TxBlocks.device c.args.tx.now) refl) (omega arith);
}

pub returns-in-Err : goal.returns-in-Err
returns-in-Err g c = record {
  run = grind (arith, map_refused) steps 100000;
  behaves = refused_first c.in-Err.e c.in-Err.ensures.kept c.in-Err.ensures.cause c.in-Err.ensures.later (omega arith);
}

pub put_taken-requires-clause-path : goal.put_taken-requires-clause-path
put_taken-requires-clause-path g c =
    let state = g.T.TxBlocks.state in
    let p = c.requires.path in
    record {
      inside = p.inside;
      long = p.long;
      usable = shown_still c.args.area (state c.args.tx.now) (state c.look.new.tx) c.args.path.now (read_one (state c.args.tx.now) (state c.look.new.tx) _ c.in_default-look.ensures.read refl) p.usable;
      some = p.some;
    }

pub returns : goal.returns
returns g c = record {
  run = (let state = g.T.TxBlocks.state in
      map_run c.args.area c.args.entry.now.key.now c.args.entry.now.value.now c.args.path.now (state c.args.tx.now) (state c.look.new.tx) (state c.put_taken.new.tx) c.look.new.into c.put_taken.result c.in_default-look.ensures.bytes (g.met.T.TxBlocks.limits c.look.new.tx).count (looked_as (state c.args.tx.now) (state c.look.new.tx) c.args.area.start _ _ c.in_default-look.ensures.read c.map_mark.ensures) c.put_taken.ensures.run);
  behaves = behaves_next (read_one (g.T.TxBlocks.state c.args.tx.now) (g.T.TxBlocks.state c.look.new.tx) _ c.in_default-look.ensures.read refl) c.in_default-look.ensures.later c.in_default-look.ensures.passed c.put_taken.ensures.behaves (omega arith);
}
