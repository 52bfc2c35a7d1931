-- A version more, with the pieces over which it is laid.
use Rattle.mv_index.proofs.{Words.{sym, subst, ◌^◌, ◌-◌, List, Version, IsRow, AreAtMost, BlockVersions}, Showing.{pieces_lie, row_more}}

pub lay-requires-clause-order : Rattle.mv_index.proofs.row.Row.add.Goals.lay-requires-clause-order
lay-requires-clause-order c = c.self.invariant.pieces_of.order

pub lay-requires-clause-placed : Rattle.mv_index.proofs.row.Row.add.Goals.lay-requires-clause-placed
lay-requires-clause-placed c = pieces_lie c.self.inside.pieces.items c.self.inside.versions.items 4096 (2 ^ 64 - 1) c.self.invariant.pieces_of c.self.invariant.placed

pub invariant_of-self : Rattle.mv_index.proofs.row.Row.add.Goals.invariant_of-self
invariant_of-self c =
    subst (λ (l : List Version). IsRow l c.lay.new.pieces.items) (sym c.push_reserved.ensures.items)
    (row_more c.self.inside.versions.items c.self.inside.pieces.items c.lay.new.pieces.items c.args.version c.self.invariant
    (subst (λ (r : BlockVersions). AreAtMost c.args.version.number r.versions) (sym c.self.view_is) c.requires.rising)
    c.requires.placed (c.lay.ensures.laid c.self.inside.versions.items c.self.invariant.pieces_of))
