use Rattle.iso_tree.proofs.{Words.{◌∙◌, refl, sym, ap, subst, ℕ, suc, ◌*◌, ◌<◌, ◌≤◌, List, length, take, arith, Region, cell_count, map_mark, bytes_in, behaves_next, later_same, read_none, refused_so, AreInside, need_of}, Descending.behaves_refused, Enlarging.{all_taken, need_taken, room_taken, used_same, shown_taken, news_are, taken_is, few_run, taken_refused, taken_run}}
use Rattle.iso_tree.proofs.enlarge.put_taken.Goals as goal

pub returns-then-free-need : goal.returns-then-free-need
returns-then-free-need g c = record {
  run = grind (arith, few_run) steps 100000;
  behaves = refused_so _ _ 66 _ _ _ (read_none _) refl (λ x. cc, λ x. cc) (later_same _ _ refl);
}

pub look_nodes-requires : goal.look_nodes-requires
look_nodes-requires g c =
    record {
      within = c.requires.buffers.within;
      is_open = c.requires.buffers.is_open;
      path = subst (AreInside c.args.area) (sym c.written-rows.ensures) (all_taken (λ (p : ℕ × ℕ). p.0 < c.args.area.blocks) (suc c.full_row-full.result) c.args.path.now c.requires.path.inside);
      usable = shown_taken c.args.area (g.T.TxBlocks.state c.args.tx.now) (suc c.full_row-full.result) c.written-rows.result.now c.args.path.now c.written-rows.ensures c.requires.path.usable;
      nodes = subst (λ (p : List (ℕ × ℕ)). length p * c.args.area.size ≤ length c.args.nodes.now) (sym c.written-rows.ensures) (room_taken c.args.area.size (suc c.full_row-full.result) (length c.args.nodes.now) c.args.path.now c.requires.nodes);
    }

pub returns-in-Err : goal.returns-in-Err
returns-in-Err g c =
    record {
      run = taken_refused c.args.area c.requires.buffers.within.area c.args.path.now c.args.map.now c.full_row-full.result c.need_of-need.result c.free_blocks-free.result c.full_row-full.ensures.value c.need_of-need.ensures
          c.region_of-region.result.size (ap (λ (r : Region). r.size) c.region_of-region.ensures) c.free_blocks-free.ensures c.args.entry.now.key.now c.args.entry.now.value.now (g.T.TxBlocks.state c.args.tx.now) (omega (arith, c.if-free-need.false))
          c.written-rows.result.now c.written-rows.ensures (g.T.TxBlocks.state c.look_nodes.new.tx) c.in-Err.e c.in-Err.ensures.run;
      behaves = behaves_refused _ _ 66 _ _ _ (omega arith) c.in-Err.ensures.reads;
    }

pub invariant_of-way-clause-inside : goal.invariant_of-way-clause-inside
invariant_of-way-clause-inside g c =
    subst (AreInside c.args.area) (sym c.written-rows.ensures) (all_taken (λ (p : ℕ × ℕ). p.0 < c.args.area.blocks) (suc c.full_row-full.result) c.args.path.now c.requires.path.inside)

pub invariant_of-way-clause-room : goal.invariant_of-way-clause-room
invariant_of-way-clause-room g c =
    subst (λ (p : List (ℕ × ℕ)). length p * c.args.area.size ≤ length c.look_nodes.new.nodes) (sym c.written-rows.ensures)
    (room_taken c.args.area.size (suc c.full_row-full.result) (length c.look_nodes.new.nodes) c.args.path.now (omega (arith, c.look_nodes.auto.nodes, c.requires.nodes)))

pub put_writes-requires-clause-news : goal.put_writes-requires-clause-news
put_writes-requires-clause-news g c =
    let news = news_are c.args.area c.requires.buffers.within.area c.args.path.now c.args.map.now c.full_row-full.result c.need_of-need.result c.free_blocks-free.result c.full_row-full.ensures.value c.need_of-need.ensures
    c.region_of-region.result.size (ap (λ (r : Region). r.size) c.region_of-region.ensures) c.free_blocks-free.ensures (omega (arith, c.if-free-need.false)) c.take_blocks.new.news c.take_blocks.ensures.taken in
    record { some = omega (arith, news.2, c.requires.path.some); rising = news.0; inside = news.1 }

pub invariant_of-way-clause-blocks : goal.invariant_of-way-clause-blocks
invariant_of-way-clause-blocks g c =
    (news_are c.args.area c.requires.buffers.within.area c.args.path.now c.args.map.now c.full_row-full.result c.need_of-need.result c.free_blocks-free.result c.full_row-full.ensures.value c.need_of-need.ensures
    c.region_of-region.result.size (ap (λ (r : Region). r.size) c.region_of-region.ensures) c.free_blocks-free.ensures (omega (arith, c.if-free-need.false)) c.take_blocks.new.news c.take_blocks.ensures.taken).1

pub invariant_of-way-clause-enough : goal.invariant_of-way-clause-enough
invariant_of-way-clause-enough g c =
    let n = cell_count c.args.area.size in
    let news = news_are c.args.area c.requires.buffers.within.area c.args.path.now c.args.map.now c.full_row-full.result c.need_of-need.result c.free_blocks-free.result c.full_row-full.ensures.value c.need_of-need.ensures
    c.region_of-region.result.size (ap (λ (r : Region). r.size) c.region_of-region.ensures) c.free_blocks-free.ensures (omega (arith, c.if-free-need.false)) c.take_blocks.new.news c.take_blocks.ensures.taken in
    let rows : need_of n c.written-rows.result.now ≤ need_of n c.args.path.now =
    subst (λ (p : List (ℕ × ℕ)). need_of n p ≤ need_of n c.args.path.now) (sym (c.written-rows.ensures ∙ ap (λ (f : ℕ). take (suc f) c.args.path.now) c.full_row-full.ensures.value)) (need_taken n c.args.path.now) in
    omega (arith, rows, news.2)

pub returns : goal.returns
returns g c =
    let state = g.T.TxBlocks.state in
    let is = taken_is c.args.area c.requires.buffers.within.area c.args.path.now c.args.map.now c.full_row-full.result c.need_of-need.result c.free_blocks-free.result c.full_row-full.ensures.value c.need_of-need.ensures
    c.region_of-region.result.size (ap (λ (r : Region). r.size) c.region_of-region.ensures) c.free_blocks-free.ensures (omega (arith, c.if-free-need.false)) c.take_blocks.new.news c.take_blocks.ensures.taken in
    let inside = (news_are c.args.area c.requires.buffers.within.area c.args.path.now c.args.map.now c.full_row-full.result c.need_of-need.result c.free_blocks-free.result c.full_row-full.ensures.value c.need_of-need.ensures
    c.region_of-region.result.size (ap (λ (r : Region). r.size) c.region_of-region.ensures) c.free_blocks-free.ensures (omega (arith, c.if-free-need.false)) c.take_blocks.new.news c.take_blocks.ensures.taken).1 in
    record {
      run = taken_run c.args.area c.requires.buffers.within.area c.args.path.now c.args.map.now c.full_row-full.result c.need_of-need.result c.free_blocks-free.result c.full_row-full.ensures.value c.need_of-need.ensures
          c.region_of-region.result.size (ap (λ (r : Region). r.size) c.region_of-region.ensures) c.free_blocks-free.ensures c.args.entry.now.key.now c.args.entry.now.value.now (state c.args.tx.now) (omega (arith, c.if-free-need.false))
          c.written-rows.result.now c.written-rows.ensures (state c.look_nodes.new.tx) (state c.put_writes.new.tx) c.put_writes.result c.look_nodes.new.nodes (take c.need_of-need.result c.take_blocks.new.news) is c.in_default.ensures.run
          (c.put_writes.ensures.run (bytes_in (map_mark c.args.area.blocks) c.args.map.now) (used_same c.args.area c.requires.buffers.within.area c.args.map.now c.take_blocks.new.map (take c.need_of-need.result c.take_blocks.new.news) inside c.take_blocks.ensures.used));
      behaves = behaves_next c.in_default.ensures.reads.reads c.in_default.ensures.reads.later c.in_default.ensures.reads.passed c.put_writes.ensures.behaves (omega arith);
    }
