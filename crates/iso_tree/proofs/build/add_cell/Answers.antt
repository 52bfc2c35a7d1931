use Rattle.iso_tree.proofs.Words.{◌∙◌, sym, refl, [], ◌∷◌, append-nil, key_part}

pub returns : Rattle.iso_tree.proofs.build.add_cell.Goals.returns
returns c = record {
  added = c.add_parts.ensures.added ((c.args.key.now, c.args.part.now) ∷ []) (record {
    count = refl;
    fit = ((c.requires.cell.key, c.requires.cell.long), tt);
    keys = c.spell.ensures ∙ sym (append-nil (key_part c.args.key.now));
    values = sym (append-nil c.args.part.now);
  });
}
