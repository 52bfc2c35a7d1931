use Rattle.iso_tree.proofs.{Words.{◌≡◌, ◌∙◌, sym, ap, ◌+◌, ◌*◌, ◌/◌, ◌%◌, ◌≤◌, length, set, arith, cell_count, keys_end, flat_map, key_part, laid_at, node_bytes, Cell}, Building.cells_added}

pub returns : Rattle.iso_tree.proofs.build.add_parts.Goals.returns
returns c = record {
  added = λ ds of size level cs is count fit long.
      let many = of.count in
      let fits = of.fit in
      let keys = of.keys in
      let values = of.values in
      let few : length cs + length ds ≤ cell_count size = omega (arith, c.requires.space.room, count, many, ap cell_count long) in
      let laid : c.lay-2.new.into ≡ laid_at (keys_end size + 33 * length cs) (flat_map (λ (d : Cell). d.1) ds) (laid_at (64 + 31 * length cs) (flat_map (λ (d : Cell). key_part d.0) ds) (node_bytes size level cs)) =
      c.lay-2.ensures ∙ (λ i. laid_at (64 + 31 * (c.cell_count.ensures ∙ ap cell_count long) i + 33 * sym count i) (values i) ((c.lay.ensures ∙ (λ j. laid_at (64 + 31 * sym count j) (keys j) (is j))) i)) in
      (λ i. set (set (laid i) 2 ((sym count i + sym many i) / 256)) 3 ((sym count i + sym many i) % 256)) ∙ cells_added size level cs ds fit fits few;
}
