-- The pieces are moved with their versions.
use Rattle.mv_index.proofs.{Words.{List, sym, subst, arith, Version, AreSplit, moved_to, IsRow, AllLie, BlockVersions}, Moves.row_moved, Showing.pieces_lie}

pub move_list-requires : Rattle.mv_index.proofs.row.Row.move_to.Goals.move_list-requires
move_list-requires c =
    let room = c.requires.room in
    let lie : AllLie room.0 room.1 c.self.inside.versions.items = subst (λ (r : BlockVersions). AllLie room.0 room.1 r.versions) (sym c.self.view_is) room.2 in
    record { room = λ i below. (let one = pieces_lie c.self.inside.pieces.items c.self.inside.versions.items room.0 room.1 c.self.invariant.pieces_of lie i below in omega (arith, one.inside, room.3)) }

pub invariant_of-self : Rattle.mv_index.proofs.row.Row.move_to.Goals.invariant_of-self
invariant_of-self c =
    let room = c.requires.room in
    let lie : AllLie room.0 room.1 c.self.inside.versions.items = subst (λ (r : BlockVersions). AllLie room.0 room.1 r.versions) (sym c.self.view_is) room.2 in
    let split : AreSplit c.args.from c.self.inside.versions.items = subst (λ (r : BlockVersions). AreSplit c.args.from r.versions) (sym c.self.view_is) c.requires.split in
    subst (λ (l : List Version). IsRow l c.move_list.new.versions.items) (sym c.move_list-2.ensures.moved)
    (subst (λ (l : List Version). IsRow (moved_to c.args.from c.args.to c.self.inside.versions.items) l) (sym c.move_list.ensures.moved)
    (row_moved c.args.from c.args.to room.0 room.1 c.self.inside.versions.items c.self.inside.pieces.items split lie room.3 c.self.invariant))
