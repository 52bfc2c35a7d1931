use Rattle.iso_tree.proofs.{Words.{◌≡◌, ◌∙◌, sym, refl, ap, ℕ, ◌+◌, ◌-◌, ◌≤◌, ◌<◌, [], ◌∷◌, ◌++◌, length, length-append, length-part, arith, Cell, FitCells, IsBlock, node_bytes, cell_count, cells_from, all_append, are_key_parts, keys_end, take, true, row_from, spelled, subst, Growth, HasNodeParts}, Copying.cells_fit_from, Filling.{row_behind, row_ahead, row_about}, Fits.{area_block, length-cells}}
use Rattle.iso_tree.proofs.fill.fill_row.Goals as goal

-- the node's bytes are those of a block
sized : (w : Growth) → IsBlock (length w.node.now)
sized w = subst IsBlock (sym w.long) (area_block w.area w.kind)

parted : (w : Growth) → are_key_parts (length w.node.now) (take (keys_end (length w.node.now)) w.node.now) ≡ true
parted w = subst (λ (n : ℕ). are_key_parts n (take (keys_end n) w.node.now) ≡ true) (sym w.long) w.parts

with_parts : (w : Growth) → HasNodeParts w.node.now
with_parts w = let least = w.kind.least_size in record { least = omega (arith, least, w.long); block = sized w; parts = parted w }

pub empty_node-requires : goal.empty_node-requires
empty_node-requires c =
    let least = c.args.growth.now.kind.least_size in
    record { least = omega (arith, least, c.requires.into); block = subst IsBlock (sym c.requires.into) (area_block c.args.growth.now.area c.args.growth.now.kind) }

pub add_cell-requires-clause-space : goal.add_cell-requires-clause-space
add_cell-requires-clause-space c =
    let sized = area_block c.args.growth.now.area c.args.growth.now.kind in
    let least = c.args.growth.now.kind.least_size in
    let long : length c.add_cells-2.new.into ≡ c.args.growth.now.area.size = c.add_cells-2.auto.into ∙ c.empty_node.auto.into ∙ c.requires.into in
    record {
      size = record { least = omega (arith, least, long); most = omega (arith, sized.most, long) };
      room = omega (arith, c.if-growth-from.false, c.if-from-count.false, c.requires.count, ap cell_count long);
    }

pub add_cells-requires-clause-node : goal.add_cells-requires-clause-node
add_cells-requires-clause-node c = with_parts c.args.growth.now

pub add_cells-requires-then-from-count-clause-node : goal.add_cells-requires-then-from-count-clause-node
add_cells-requires-then-from-count-clause-node c = with_parts c.args.growth.now

pub add_cells-requires-2-clause-node : goal.add_cells-requires-2-clause-node
add_cells-requires-2-clause-node c = with_parts c.args.growth.now

pub add_cells-requires-3-clause-node : goal.add_cells-requires-3-clause-node
add_cells-requires-3-clause-node c = with_parts c.args.growth.now

pub returns-then-growth-from : goal.returns-then-growth-from
returns-then-growth-from c =
    let w = c.args.growth.now in
    let size = length w.node.now in
    c.add_cells.ensures.added size c.args.level [] (c.empty_node.ensures ∙ ap (λ (n : ℕ). node_bytes n c.args.level []) (c.requires.into ∙ sym w.long)) refl tt (c.empty_node.auto.into ∙ c.requires.into ∙ sym w.long)
    ∙ ap (node_bytes size c.args.level) (row_behind size w.node.now w.place (spelled w.entry.now) c.args.from c.args.count c.if-growth-from.true)
    ∙ ap (λ (n : ℕ). node_bytes n c.args.level (row_from n w.node.now w.place (spelled w.entry.now) c.args.from c.args.count)) w.long

pub returns-then-from-count : goal.returns-then-from-count
returns-then-from-count c =
    let w = c.args.growth.now in
    let size = length w.node.now in
    c.add_cells-then-from-count.ensures.added size c.args.level [] (c.empty_node.ensures ∙ ap (λ (n : ℕ). node_bytes n c.args.level []) (c.requires.into ∙ sym w.long)) refl tt (c.empty_node.auto.into ∙ c.requires.into ∙ sym w.long)
    ∙ ap (node_bytes size c.args.level) (row_ahead size w.node.now w.place (spelled w.entry.now) c.args.from c.args.count c.if-from-count.true)
    ∙ ap (λ (n : ℕ). node_bytes n c.args.level (row_from n w.node.now w.place (spelled w.entry.now) c.args.from c.args.count)) w.long

pub returns : goal.returns
returns c =
    let w = c.args.growth.now in
    let node = w.node.now in
    let size = length node in
    let new = spelled w.entry.now in
    let low : c.args.from ≤ w.place = omega (arith, c.if-growth-from.false) in
    let high : w.place < c.args.from + c.args.count = omega (arith, c.if-from-count.false) in
    let before = w.place - c.args.from in
    let front = cells_from size node c.args.from before in
    let long : length front ≡ before = length-cells _ _ c.args.from before in
    let inside = w.inside in
    let fit = cells_fit_from size node (sized w) refl (parted w) c.args.from before (omega (arith, low, inside, w.long)) in
    let first = c.add_cells-2.ensures.added size c.args.level [] (c.empty_node.ensures ∙ ap (λ (n : ℕ). node_bytes n c.args.level []) (c.requires.into ∙ sym w.long)) refl tt (c.empty_node.auto.into ∙ c.requires.into ∙ sym w.long) in
    let part = c.value_part-part.ensures in
    let second = c.add_cell.ensures.added size c.args.level front first long fit (c.add_cells-2.auto.into ∙ c.empty_node.auto.into ∙ c.requires.into ∙ sym w.long)
    ∙ ap (λ v. node_bytes size c.args.level (front ++ (w.entry.now.key.now, v) ∷ [])) part in
    let both : FitCells (front ++ new ∷ []) = all_append (λ (d : Cell). (length d.0 ≤ 28) × (length d.1 ≡ 33)) front (new ∷ []) fit ((w.entry.now.short, length-part 32 w.entry.now.value.now w.entry.now.fits), tt) in
    c.add_cells-3.ensures.added size c.args.level (front ++ new ∷ []) second (length-append front (new ∷ []) ∙ ap (λ (n : ℕ). n + 1) long) both (c.add_cell.auto.into ∙ c.add_cells-2.auto.into ∙ c.empty_node.auto.into ∙ c.requires.into ∙ sym w.long)
    ∙ ap (node_bytes size c.args.level) (row_about size node w.place new c.args.from c.args.count low high)
    ∙ ap (λ (n : ℕ). node_bytes n c.args.level (row_from n node w.place new c.args.from c.args.count)) w.long
