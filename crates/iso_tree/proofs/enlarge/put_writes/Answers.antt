use Rattle.iso_tree.proofs.{Words.{◌∙◌, sym, ap, arith, climbed, room_after, Tx}, Enlarging.{first_unwritten, way_of, writes_unfit, then_nodes}}
use Rattle.iso_tree.proofs.enlarge.put_writes.Goals as goal

pub returns-in-Err-clause-run : goal.returns-in-Err-clause-run
returns-in-Err-clause-run g c = λ first used.
    let w = c.args.way.now in
    let way = way_of w c.args.entry.now c.full_row-full.result c.full_row-full.ensures.value in
    writes_unfit w.area first w.news.now (climbed w 0 c.args.entry.now 0) c.full_row-full.result way.count (g.T.TxBlocks.state c.args.tx.now) c.in-Err.e c.in-Err.ensures.err.0 (omega (arith, c.in-Err.ensures.err.1))

pub climb-requires-clause-writes : goal.climb-requires-clause-writes
climb-requires-clause-writes g c =
    let way = way_of c.args.way.now c.args.entry.now c.full_row-full.result c.full_row-full.ensures.value in
    let after = room_after (g.T.TxBlocks.state c.args.tx.now) (g.T.TxBlocks.state c.store_first.new.tx) c.in_default-store_first.ensures.one.access c.in_default-store_first.ensures.one.is (g.met.T.TxBlocks.limits c.store_first.new.tx).count in
    let within = c.requires.buffers.within in
    let is = c.in_default-store_first.ensures.one.is in
    record {
      within = record { area = within.area; size = ap (λ (t : Tx). t.size) is ∙ within.size; fits = omega (arith, ap (λ (t : Tx). t.blocks) is, within.fits) };
      is_open = ap (λ (t : Tx). t.is_open) is ∙ c.requires.buffers.is_open;
      room = omega (arith, way.count, after, c.in_default.ensures.ok);
      into = c.store_first.auto.into ∙ c.requires.buffers.into;
    }

pub returns-clause-run : goal.returns-clause-run
returns-clause-run g c = λ first used.
    let state = g.T.TxBlocks.state in
    let w = c.args.way.now in
    let way = way_of w c.args.entry.now c.full_row-full.result c.full_row-full.ensures.value in
    then_nodes w.area first w.news.now (climbed w 0 c.args.entry.now 0) c.full_row-full.result way.count
    (state c.args.tx.now) c.new_root-root.result (state c.store_first.new.tx) (state c.climb.new.tx) c.climb.result c.in_default.ensures.ok (way.root ∙ sym c.new_root-root.ensures) (c.in_default-store_first.ensures.stored first used)
    (g.met.T.TxBlocks.limits c.store_first.new.tx).count c.climb.ensures.run

pub returns-in-Err-store_first-clause-run : goal.returns-in-Err-store_first-clause-run
returns-in-Err-store_first-clause-run g c = λ first used.
    let state = g.T.TxBlocks.state in
    let w = c.args.way.now in
    let way = way_of w c.args.entry.now c.full_row-full.result c.full_row-full.ensures.value in
    first_unwritten w.area first w.news.now (climbed w 0 c.args.entry.now 0) c.full_row-full.result way.count
    (state c.args.tx.now) (state c.store_first.new.tx) (g.T.TxBlocks.device c.args.tx.now) (g.T.TxBlocks.device c.store_first.new.tx) c.in-Err-store_first.e c.in_default.ensures.ok c.in-Err-store_first.ensures.kept c.in-Err-store_first.ensures.cause
