use Rattle.iso_core.proofs.{Words.{◌∙◌, refl, leave_all}, Staging.notes_dropped, Standings.becomes_then, Trims.{are_needed, floor_is}}

pub leave_all-requires : Rattle.iso_core.proofs.taking.leave_members.Goals.leave_all-requires
leave_all-requires c = c.requires

pub returns : Rattle.iso_core.proofs.taking.leave_members.Goals.returns
returns c m =
    let V = leave_all m.members m.world in
    let kept = c.leave_all.new.kept in
    let left = c.leave_all.ensures m in
    let to = c.floor-floor.ensures ∙ floor_is kept V left.of c.last.result c.last.ensures in
    record {
      becomes = becomes_then left (record { of = notes_dropped kept V c.drop_to.new.self c.floor-floor.result left.of to c.drop_to.ensures.notes; half = refl; down = refl });
      needed = are_needed V c.floor-floor.result kept.notes.notes c.drop_to.new.self to c.drop_to.ensures.notes;
    }
