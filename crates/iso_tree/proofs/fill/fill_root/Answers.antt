use Rattle.iso_tree.proofs.Words.{◌∙◌, ◌≡◌, refl, ap, ℕ, zero, suc, List, [], ◌∷◌, length, arith, Cell, child_part, node_bytes, root_cells, spelled}

zero_root : (level below : ℕ) (new : Cell) → level ≡ 0 → new ∷ [] ≡ root_cells level below new
zero_root zero below new e = refl
zero_root (suc level) below new e = absurd (omega arith)

more_root : (level below : ℕ) (new : Cell) → (level ≡ 0 → ⊥) → ([], child_part below) ∷ new ∷ [] ≡ root_cells level below new
more_root zero below new other = absurd (other refl)
more_root (suc level) below new other = refl

pub returns-then-level-eq0 : Rattle.iso_tree.proofs.fill.fill_root.Goals.returns-then-level-eq0
returns-then-level-eq0 c =
    let size = length c.args.into.now in
    let key = c.args.entry.now.key.now in
    c.add_cell.ensures.added size c.args.level [] c.empty_node.ensures refl tt c.empty_node.auto.into
    ∙ ap (λ (v : List ℕ). node_bytes size c.args.level ((key, v) ∷ [])) c.value_part-part.ensures
    ∙ ap (node_bytes size c.args.level) (zero_root c.args.level c.args.below (spelled c.args.entry.now) c.if-level-eq0.true)

pub returns : Rattle.iso_tree.proofs.fill.fill_root.Goals.returns
returns c =
    let size = length c.args.into.now in
    let key = c.args.entry.now.key.now in
    let first = c.add_cell-2.ensures.added size c.args.level [] c.empty_node.ensures refl tt c.empty_node.auto.into in
    let named : ◌≡◌ {A = List Cell} (([], c.child_part.result) ∷ []) (([], child_part c.args.below) ∷ []) = ap (λ (p : List ℕ). ([], p) ∷ []) c.child_part.ensures in
    c.add_cell-3.ensures.added size c.args.level (([], child_part c.args.below) ∷ []) (first ∙ ap (node_bytes size c.args.level) named) refl ((omega arith, refl), tt) (c.add_cell-2.auto.into ∙ c.empty_node.auto.into)
    ∙ ap (λ (v : List ℕ). node_bytes size c.args.level (([], child_part c.args.below) ∷ (key, v) ∷ [])) c.value_part-part.ensures
    ∙ ap (node_bytes size c.args.level) (more_root c.args.level c.args.below (spelled c.args.entry.now) c.if-level-eq0.false)
