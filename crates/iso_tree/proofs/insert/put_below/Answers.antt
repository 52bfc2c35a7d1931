use Rattle.iso_tree.proofs.{Words.{refl, false, [], put_at, ◌≡◌, ◌∙◌, sym, subst, ◌+◌, ◌≤◌, length, take, arith, cell_count, keys_end, behaves_next, NeedsBlocks, with_map}, Descending.behaves_refused, Facts.{cell_used, missing, node_parts}, Getting.{below_refused, put_found, put_room, put_full, leaf_usable, full_needs}}
use Rattle.iso_tree.proofs.insert.put_below.Goals as goal

pub returns-in-Err : goal.returns-in-Err
returns-in-Err g c =
    let state = g.T.TxBlocks.state in
    record {
      run = below_refused (with_map c.args.root.area c.args.entry.now.key.now c.args.entry.now.value.now []) c.args.root.area c.args.entry.now.key.now false c.args.root.block c.args.root.level (put_at c.args.root.area c.args.entry.now.key.now c.args.entry.now.value.now) c.if-root-eq0.false (λ block. refl) (state c.args.tx.now) (state c.descend.new.tx) c.descend.new.path c.descend.new.buffer c.in-Err.e c.in-Err.ensures.run;
      behaves = behaves_refused _ _ 66 _ _ _ (omega arith) c.in-Err.ensures.reads;
    }

pub put_value-requires-clause-cell : goal.put_value-requires-clause-cell
put_value-requires-clause-cell g c =
    let keys = take (keys_end c.args.root.area.size) c.descend.new.buffer in
    let used = cell_used c.args.entry.now.key.now keys c.in-Some.cell (sym c.in-Ok.ensures.leaf.cell ∙ c.in-Some.is) in
    omega (arith, used, (node_parts c.args.root.area.size 0 keys c.in-Ok.ensures.leaf.node).few)

pub returns-in-Some : goal.returns-in-Some
returns-in-Some g c = record {
  run = grind (arith, put_found);
  behaves = behaves_next c.in-Ok.ensures.reads.reads c.in-Ok.ensures.reads.later c.in-Ok.ensures.reads.passed c.put_value.ensures.behaves (omega arith);
}

pub returns-then-leaf-cell_count : goal.returns-then-leaf-cell_count
returns-then-leaf-cell_count g c =
    let state = g.T.TxBlocks.state in
    record {
      run = put_room c.args.root.area c.args.entry.now.key.now c.args.entry.now.value.now c.args.root.block c.args.root.level c.if-root-eq0.false (state c.args.tx.now) (state c.descend.new.tx) c.descend.new.path c.descend.new.buffer c.in-Ok.leaf c.in-Ok.ensures.leaf c.in-Ok.ensures.run
          (state c.put_cell.new.tx) c.put_cell.result (missing c.in-Ok.leaf.cell c.in_default.not-Some) (omega (arith, c.if-leaf-cell_count.true, c.cell_count.ensures)) c.put_cell.ensures.run;
      behaves = behaves_next c.in-Ok.ensures.reads.reads c.in-Ok.ensures.reads.later c.in-Ok.ensures.reads.passed c.put_cell.ensures.behaves (omega arith);
    }

pub put_new-requires-2-clause-path : goal.put_new-requires-2-clause-path
put_new-requires-2-clause-path g c =
    let state = g.T.TxBlocks.state in
    let n = cell_count c.args.root.area.size in
    let least = c.requires.within.area.least_size in
    let one : 1 ≤ c.in-Ok.leaf.count = omega (arith, c.if-leaf-cell_count.false, c.cell_count.ensures) in
    let few = (node_parts c.args.root.area.size 0 (take (keys_end c.args.root.area.size) c.descend.new.buffer) c.in-Ok.ensures.leaf.node).few in
    let full : c.in-Ok.leaf.count ≡ n = omega (arith, c.if-leaf-cell_count.false, c.cell_count.ensures, c.in-Ok.ensures.leaf.count) in
    let long : length c.descend.new.path + 1 ≤ 32 = omega (arith, c.in-Ok.ensures.path.long, c.args.root.low) in
    subst (NeedsBlocks c.args.root.area (state c.descend.new.tx)) (sym (c.nodes.ensures ∙ c.push.ensures)) (record {
      inside = (c.in-Ok.ensures.leaf.inside, c.in-Ok.ensures.path.inside);
      long = omega (arith, long);
      usable = leaf_usable c.args.root.area c.args.entry.now.key.now c.args.entry.now.value.now c.args.root.block c.args.root.level c.if-root-eq0.false (state c.args.tx.now) (state c.descend.new.tx) c.descend.new.path c.descend.new.buffer c.in-Ok.leaf c.in-Ok.ensures.leaf c.in-Ok.ensures.run c.in-Ok.ensures.reads.reads one;
      some = full_needs n c.in-Ok.leaf.block c.in-Ok.leaf.count c.descend.new.path full;
    })

pub returns : goal.returns
returns g c = record {
  run = grind (arith, put_full, missing);
  behaves = behaves_next c.in-Ok.ensures.reads.reads c.in-Ok.ensures.reads.later c.in-Ok.ensures.reads.passed c.put_new-2.ensures.behaves (omega arith);
}
