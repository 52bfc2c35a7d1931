use Rattle.iso_fs.proofs.{Words.{◌∙◌, ◌+◌, length, ◌++◌, ap, refl, subst, arith, block_with, take, ℕ, ◌-◌, List, drop, Err, suc, Device, write_pieces, entries_of, later_same, later_than, HasRun}, Ended.{behaves_behind, done_so, refused_store}, Lefts.{piece_less, piece_stops}, WriteSteps.{all_written, left_whole, piece_done, piece_refused, place_covered, rest_is, rest_more}}
use Rattle.store_model.specs.declared.stores.StoreError.TheVariants as store
use Rattle.store_model.specs.declared.files.FsError.TheVariants as fs
use Rattle.iso_fs.proofs.storing.write_pieces.Goals as goal

pub loop-at-init : goal.loop-at-init
loop-at-init g c = record {
  left = left_whole c.args.writing.now.file.area (entries_of c.args.writing.now.file.area.size c.args.writing.now.file.bytes.now ++ c.args.news.now) c.args.writing.now.file.count c.args.writing.now.off (c.args.writing.now.off + length c.args.writing.now.bytes.now) c.args.writing.now.bytes.now (g.T.TxBlocks.state c.args.tx.now) (omega arith);
  low = omega arith;
  up = omega arith;
  long = c.requires.buffer.long;
  later = later_same _ _ refl;
  passed = refl;
}

pub number_at-number-requires-clause-place : goal.number_at-number-requires-clause-place
number_at-number-requires-clause-place g c = grind (arith, place_covered) steps 100000

pub loop-at-preserved : goal.loop-at-preserved
loop-at-preserved g c =
    let state = g.T.TxBlocks.state in
    let low = c.loop-at.invariant.low in
    let len = c.piece_mark-span.result.len in
    let left = c.piece-rest.result.now in
    let rest = rest_is c.args.writing.now.bytes.now left c.args.writing.now.off c.loop-at.at (c.args.writing.now.off + length c.args.writing.now.bytes.now) low c.loop-at.invariant.up (omega arith) c.piece-rest.ensures.value in
    record {
      left = piece_less len c.piece_mark-span.ensures.fits.some c.piece_mark-span.ensures.within (omega arith) c.loop-at.invariant.left (λ most. rw rest at (rw (rest_more c.args.writing.now.bytes.now left c.args.writing.now.off c.loop-at.at len low rest) at
          (piece_done c.args.writing.now.file.area (entries_of c.args.writing.now.file.area.size c.args.writing.now.file.bytes.now ++ c.args.news.now) c.args.writing.now.file.count c.loop-at.at (c.args.writing.now.off + length c.args.writing.now.bytes.now) left c.loop-at-test.true (state c.loop-at.tx) (state c.store_piece.new.tx) c.number_at-number.result c.piece_mark-span.result c.lay_alone.new.into _
          c.number_at-number.ensures.number c.piece_mark-span.ensures.span (c.lay_alone.ensures ∙ ap (λ (n : ℕ). block_with n c.piece_mark-span.result.off (take len left)) c.loop-at.invariant.long) refl (g.met.T.TxBlocks.limits c.store_piece.new.tx) c.in_default.ensures.stored most)));
      low = omega (arith, low);
      up = omega (arith, c.piece_mark-span.ensures.within, c.loop-at-test.true);
      long = c.lay_alone.auto.into ∙ c.loop-at.invariant.long;
      later = later_than _ _ _ c.loop-at.invariant.later (later_same _ _ c.in_default.ensures.device);
      passed = ap (λ (d : Device). d.faults) c.in_default.ensures.device ∙ c.loop-at.invariant.passed;
    }

pub returns-in-Err : goal.returns-in-Err
returns-in-Err g c =
    let state = g.T.TxBlocks.state in
    let device = g.T.TxBlocks.device in
    let E = entries_of c.args.writing.now.file.area.size c.args.writing.now.file.bytes.now ++ c.args.news.now in
    let rest = rest_is c.args.writing.now.bytes.now c.piece-rest.result.now c.args.writing.now.off c.loop-at.at (c.args.writing.now.off + length c.args.writing.now.bytes.now) c.loop-at.invariant.low c.loop-at.invariant.up (omega arith) c.piece-rest.ensures.value in
    record {
      part = record {
        run = piece_stops (state c.store_piece.new.tx) (fs.Store (store.Tx c.in-Err.e)) (omega (arith, c.loop-at-test.true)) c.loop-at.invariant.left
            (λ most. subst (λ (xs : List ℕ). HasRun (write_pieces c.args.writing.now.file.area E c.args.writing.now.file.count (suc most) c.loop-at.at (c.args.writing.now.off + length c.args.writing.now.bytes.now) xs) (state c.loop-at.tx) (state c.store_piece.new.tx) (Err (fs.Store (store.Tx c.in-Err.e)))) rest
            (piece_refused c.args.writing.now.file.area E c.args.writing.now.file.count c.loop-at.at (c.args.writing.now.off + length c.args.writing.now.bytes.now) c.piece-rest.result.now c.loop-at-test.true (state c.loop-at.tx) (state c.store_piece.new.tx) (device c.loop-at.tx) (device c.store_piece.new.tx) c.in-Err.e c.in-Err.ensures.kept c.in-Err.ensures.cause most));
        behaves = behaves_behind _ _ _ 1 _ _ _ (Err (fs.Store (store.Tx c.in-Err.e))) refl c.loop-at.invariant.later c.loop-at.invariant.passed (refused_store (state c.loop-at.tx) (state c.store_piece.new.tx) 1 (device c.loop-at.tx) (device c.store_piece.new.tx) c.in-Err.e (omega arith) c.in-Err.ensures.cause c.in-Err.ensures.device);
      };
      of_tx = refl;
    }

pub returns : goal.returns
returns g c = record {
  part = record {
    run = all_written c.args.writing.now.file.area (entries_of c.args.writing.now.file.area.size c.args.writing.now.file.bytes.now ++ c.args.news.now) c.args.writing.now.file.count c.loop-at.at (c.args.writing.now.off + length c.args.writing.now.bytes.now) (drop (c.loop-at.at - c.args.writing.now.off) c.args.writing.now.bytes.now) (omega (arith, c.loop-at-test.false)) c.loop-at.invariant.left;
    behaves = done_so _ _ 1 _ _ _ c.loop-at.invariant.later c.loop-at.invariant.passed;
  };
  of_tx = tt;
}
