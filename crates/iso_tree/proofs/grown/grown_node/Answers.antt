use Rattle.iso_tree.proofs.{Words.{◌≡◌, ◌∙◌, ap, ℕ, ◌+◌, ◌*◌, List, length, drop, arith, cell_count, length-drop, length-part, length-take-le, node_bytes, row_from, value_part}, Fits.area_block, OneMore.{grown_long, grown_whole}}

pub push_head-requires : Rattle.iso_tree.proofs.grown.grown_node.Goals.push_head-requires
push_head-requires c = let sized = area_block c.args.growth.now.area c.args.growth.now.kind in omega (arith, sized.whole, sized.most, c.requires.room)

pub push_parts-requires-clause-few : Rattle.iso_tree.proofs.grown.grown_node.Goals.push_parts-requires-clause-few
push_parts-requires-clause-few c = let sized = area_block c.args.growth.now.area c.args.growth.now.kind in omega (arith, sized.whole, sized.most, c.piece-keys.ensures.length, c.cell_count-cells.ensures)

pub push_parts-requires-2-clause-few : Rattle.iso_tree.proofs.grown.grown_node.Goals.push_parts-requires-2-clause-few
push_parts-requires-2-clause-few c = let sized = area_block c.args.growth.now.area c.args.growth.now.kind in omega (arith, sized.whole, sized.most, c.piece-values.ensures.length, c.cell_count-cells.ensures)

pub returns : Rattle.iso_tree.proofs.grown.grown_node.Goals.returns
returns c =
    let w = c.args.growth.now in
    let node = w.node.now in
    let size = w.area.size in
    let n = cell_count size in
    let sized = area_block w.area w.kind in
    let keys_long = length-take-le (31 * n) (drop 64 node) (omega (arith, length-drop 64 node, sized.whole, w.long)) in
    let values_long = length-take-le (33 * n) (drop (64 + 31 * n) node) (omega (arith, length-drop (64 + 31 * n) node, sized.whole, w.long)) in
    let part_long : length c.value_part-part.result ≡ 33 = ap length c.value_part-part.ensures ∙ length-part 32 w.entry.now.value.now w.entry.now.fits in
    let whole = grown_whole size node sized w.long w.parts w.place c.args.count c.requires.place c.requires.room c.args.level w.entry.now.key.now c.value_part-part.result c.spell.new.part c.spell.ensures c.spell.auto.part part_long keys_long values_long
    c.cell_count-cells.result c.in_ok-out.out.items c.push_head.new.out.items c.push_parts.new.out.items c.push_parts-2.new.out.items c.piece-keys.result.now c.piece-values.result.now c.cell_count-cells.ensures c.piece-keys.ensures.value c.piece-values.ensures.value
    c.in_ok-out.ensures.items c.in_ok-push_head.ensures c.in_ok-push_parts.ensures c.in_ok-push_parts-2.ensures
    ∙ ap (λ (v : List ℕ). node_bytes size c.args.level (row_from size node w.place (w.entry.now.key.now, v) 0 (c.args.count + 1))) c.value_part-part.ensures in
    record {
      value = whole;
      long = grown_long size node sized w.long w.parts w.place c.args.count c.requires.place c.requires.room c.args.level w.entry.now.key.now (value_part w.entry.now.value.now) c.spell.new.part c.spell.ensures c.spell.auto.part
          (length-part 32 w.entry.now.value.now w.entry.now.fits) keys_long values_long c.push_parts-2.new.out.items whole w.entry.now.short;
    }
