use Rattle.iso_tree.proofs.{Words.{◌∙◌, refl, ap, ℕ, ◌+◌, ◌*◌, length, take, drop, cells_from}, Fits.length-cells, Copying.{keys_are, values_are, cells_fit_from}}

pub returns : Rattle.iso_tree.proofs.build.add_cells.Goals.returns
returns c =
    let node = c.args.node.now in
    let size = length node in
    let first = c.args.first in
    let many = c.args.many in
    record {
      added = c.add_parts.ensures.added (cells_from size node first many) (record {
        count = length-cells _ _ first many;
        fit = cells_fit_from size node c.requires.node.block refl c.requires.node.parts first many c.requires.inside;
        keys = c.piece-keys.ensures.value ∙ keys_are size node c.requires.node.block refl c.requires.node.parts first many c.requires.inside;
        values = c.piece-values.ensures.value ∙ ap (λ (n : ℕ). take (33 * many) (drop (64 + 31 * n + 33 * first) node)) c.cell_count.ensures ∙ values_are size node c.requires.node.block refl first many;
      });
    }
