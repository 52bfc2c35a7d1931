use Rattle.iso_core.proofs.{Words.{◌∙◌, refl, ap, above, after_commit}, Commits.{commits_so, may_take_in, next_floor, notes_below}, Leaves.is_live, Trims.are_needed}

pub add_parts-requires-clause-may : Rattle.iso_core.proofs.commit.take_in.Goals.add_parts-requires-clause-may
add_parts-requires-clause-may c =
    let h = c.requires in
    may_take_in h.world c.args.tx h.t c.args.kept.now c.args.gate c.args.writes h.is c.last-number.result c.as_slice.result.now c.last-number.ensures c.as_slice.ensures.value

pub add-requires-clause-number : Rattle.iso_core.proofs.commit.take_in.Goals.add-requires-clause-number
add-requires-clause-number c =
    let h = c.requires in
    notes_below h.world c.args.tx h.t c.args.kept.now c.args.gate c.args.writes h.is c.last-number.result c.last-number.ensures

pub leave-requires : Rattle.iso_core.proofs.commit.take_in.Goals.leave-requires
leave-requires c =
    let h = c.requires in
    is_live _ h.world c.args.tx h.t h.is.was h.is.here

pub returns : Rattle.iso_core.proofs.commit.take_in.Goals.returns
returns c h = record {
  becomes = record {
    of = commits_so h.world c.args.tx h.t c.args.kept.now c.args.gate c.args.writes h.is c.last-number.result c.floor-floor.result c.as_slice.result.now c.add_parts.new.index c.leave.new.self c.drop_to.new.self
        c.last-number.ensures c.as_slice.ensures.value c.add_parts.ensures c.leave.ensures c.floor-floor.ensures (c.drop_to.ensures.notes ∙ ap (above c.floor-floor.result) c.add.ensures);
    half = refl;
    down = refl;
  };
  needed = are_needed (after_commit h.world h.t) c.floor-floor.result _ c.drop_to.new.self
      (c.floor-floor.ensures ∙ next_floor h.world c.args.tx h.t c.args.kept.now c.args.gate c.args.writes h.is c.last-number.result c.leave.new.self c.last-number.ensures c.leave.ensures) c.drop_to.ensures.notes;
}
