use Rattle.iso_tree.proofs.Words.{◌∙◌, sym, ap, not, cond, Bool, [], ◌∷◌, ◌++◌, node_bytes}

pub returns-clause-added : Rattle.iso_tree.proofs.build.add_other.Goals.returns-clause-added
returns-clause-added c = λ size level cs is count fit long.
    c.add_cell.ensures.added size level cs is count fit long
    ∙ ap (λ (t : Bool). node_bytes size level (cs ++ cond t ((c.args.other.now, c.args.part.now) ∷ []) [])) (sym (ap not (sym c.eq.ensures ∙ c.if-eq.false)))
