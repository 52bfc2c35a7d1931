-- What is left rises, and the pieces are those of what is left.
use Rattle.mv_index.proofs.{Words.{List, sym, subst, Version, IsRow}, Showing.row_trimmed}

pub invariant_of-self : Rattle.mv_index.proofs.row.Row.trim_to.Goals.invariant_of-self
invariant_of-self c =
    subst (λ (l : List Version). IsRow l c.self.inside.pieces.items) (sym c.trim_list.ensures.kept) (row_trimmed c.args.number c.self.inside.versions.items c.self.inside.pieces.items c.self.invariant)

pub trim_list-requires-clause-within : Rattle.mv_index.proofs.row.Row.trim_to.Goals.trim_list-requires-clause-within
trim_list-requires-clause-within c i below = (c.self.invariant.placed i below).fits
