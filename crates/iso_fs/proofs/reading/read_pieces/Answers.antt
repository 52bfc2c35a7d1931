use Rattle.iso_fs.proofs.{Words.{◌≡◌, ◌∙◌, refl, sym, subst, ap, arith, ℕ, ◌+◌, ◌-◌, ◌/◌, ◌<◌, ◌≤◌, true, List, Area, bytes_of, entry_at, is_file, Err, length, take, Tx, read_join, later_same, later_than, read_none}, Lefts.{piece_less, piece_stops}, Parts.{read_kept, read_one}, ReadSteps.{all_done, code_piece, entry_below, entry_fits, left_first, more_read, piece_refused}, Ended.{behaves_after, done_so, refused_access}}
use Rattle.store_model.specs.declared.stores.StoreError.TheVariants as store
use Rattle.store_model.specs.declared.files.FsError.TheVariants as fs
use Rattle.iso_fs.proofs.reading.read_pieces.Goals as goal

pub loop-at-init : goal.loop-at-init
loop-at-init g c =
    let none : c.args.from - c.args.from ≡ 0 = omega arith in
    record {
      left = rw none (left_first c.args.file.now.area c.args.file.now.bytes.now (length c.args.room.now) c.args.from c.args.to c.args.room.now (g.T.TxBlocks.state c.args.tx.now) c.requires.room);
      low = omega arith;
      up = c.requires.up;
      reads = read_none _;
      later = later_same _ _ refl;
      passed = refl;
    }

pub lay-requires : goal.lay-requires
lay-requires g c = omega (arith, c.requires.room, c.loop-at.auto.room, c.piece_mark-span.ensures.within, c.piece.ensures.length, c.loop-at.invariant.low, c.loop-at-test.true)

pub entry_at-number-requires : goal.entry_at-number-requires
entry_at-number-requires g c =
    let file = c.args.file.now in
    let fits = entry_fits file.area file.bytes.now file.good file.kind.least_size c.loop-at.at (omega (arith, c.requires.inside, c.loop-at-test.true)) in
    omega (arith, fits, file.long)

-- the number is that of a block of the area
number_below : (a : Area) (file : List ℕ) (number at to : ℕ) → is_file a file ≡ true → 256 ≤ a.size → number ≡ entry_at file (at / a.size) → at < to → to ≤ bytes_of file → number < a.blocks
number_below a file number at to good least is less inside = subst (λ (n : ℕ). n < a.blocks) (sym is) (entry_below a file good least at (omega (arith, less, inside)))

pub overflow_add-file : goal.overflow_add-file
overflow_add-file g c =
    let file = c.args.file.now in
    let below = number_below file.area file.bytes.now c.entry_at-number.result c.loop-at.at c.args.to file.good file.kind.least_size c.entry_at-number.ensures c.loop-at-test.true c.requires.inside in
    omega (arith, below, c.requires.buffer.holds.fits, (g.met.T.TxBlocks.limits c.args.tx.now).few)

pub look-requires-clause-block : goal.look-requires-clause-block
look-requires-clause-block g c =
    let file = c.args.file.now in
    let below = number_below file.area file.bytes.now c.entry_at-number.result c.loop-at.at c.args.to file.good file.kind.least_size c.entry_at-number.ensures c.loop-at-test.true c.requires.inside in
    let blocks = ap (λ (t : Tx). t.blocks) c.loop-at.invariant.reads.is in
    omega (arith, below, c.requires.buffer.holds.fits, blocks)

pub loop-at-preserved : goal.loop-at-preserved
loop-at-preserved g c =
    let state = g.T.TxBlocks.state in
    let low = c.loop-at.invariant.low in
    let within = c.piece_mark-span.ensures.within in
    let room = c.requires.room in
    let less = c.loop-at-test.true in
    let place = c.loop-at.at - c.args.from in
    let len = c.piece_mark-span.result.len in
    let more : place + len ≡ c.loop-at.at + len - c.args.from = omega arith in
    record {
      left = piece_less len c.piece_mark-span.ensures.fits.some within (omega arith) c.loop-at.invariant.left (λ most. rw more at
          (code_piece c.args.file.now.area c.args.file.now.bytes.now c.loop-at.at c.args.to (take place c.loop-at.room) less (state c.loop-at.tx) (state c.look.new.tx) c.look.new.into c.entry_at-number.result c.piece_mark-span.result c.entry_at-number.ensures c.piece_mark-span.ensures.span
          c.in_default.ensures.bytes (g.met.T.TxBlocks.limits c.look.new.tx) c.in_default.ensures.read len c.piece.result.now _ refl c.piece.ensures.value
          (ap (take (place + len)) c.lay.ensures ∙ more_read place len c.piece.result.now c.loop-at.room c.piece.ensures.length (omega (arith, within, room, c.loop-at.auto.room))) most));
      low = omega (arith, low);
      up = omega (arith, within, less);
      reads = read_join _ _ _ c.loop-at.invariant.reads (read_one _ c.in_default.ensures.read (refl, tt));
      later = later_than _ _ _ c.loop-at.invariant.later c.in_default.ensures.later;
      passed = c.in_default.ensures.passed ∙ c.loop-at.invariant.passed;
    }

pub returns-in-Err : goal.returns-in-Err
returns-in-Err g c =
    let state = g.T.TxBlocks.state in
    let device = g.T.TxBlocks.device in
    let less = c.loop-at-test.true in
    record {
      part = record {
        run = piece_stops (state c.look.new.tx) (fs.Store (store.Tx c.in-Err.e)) (omega (arith, less)) c.loop-at.invariant.left
            (λ most. piece_refused c.args.file.now.area c.args.file.now.bytes.now most c.loop-at.at c.args.to (take (c.loop-at.at - c.args.from) c.loop-at.room) less (state c.loop-at.tx) (state c.look.new.tx) (device c.loop-at.tx) (device c.look.new.tx) c.in-Err.e c.in-Err.ensures.kept c.in-Err.ensures.cause);
        behaves = behaves_after _ _ _ 1 _ _ _ (Err (fs.Store (store.Tx c.in-Err.e))) c.loop-at.invariant.reads c.loop-at.invariant.later c.loop-at.invariant.passed (refused_access _ _ 1 _ _ c.in-Err.e (omega arith) c.in-Err.ensures.cause c.in-Err.ensures.later);
      };
      reads = read_join _ _ _ c.loop-at.invariant.reads (read_kept c.in-Err.ensures.kept);
    }

pub returns : goal.returns
returns g c =
    let same : c.loop-at.at - c.args.from ≡ c.args.to - c.args.from = omega (arith, c.loop-at.invariant.up, c.loop-at-test.false) in
    record {
      part = record {
        run = all_done c.args.file.now.area c.args.file.now.bytes.now c.loop-at.at c.args.to (take (c.args.to - c.args.from) c.loop-at.room) (omega (arith, c.loop-at-test.false)) (rw same at c.loop-at.invariant.left);
        behaves = done_so _ _ 1 _ _ _ c.loop-at.invariant.later c.loop-at.invariant.passed;
      };
      reads = c.loop-at.invariant.reads;
    }
